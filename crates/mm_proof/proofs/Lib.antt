-- In a normal proof the loop of `read_normal` keeps the steps of the words so far, and
-- `fault_of_faulty_word_is_least` (`LeastLaw.antt`) shows that the first fault is the least. In a
-- compressed proof `unusable_label_is_first_fault` and `open_brackets_is_first_fault`
-- (`BracketsLaw.antt`) give the faults of the labels. The loops over letters keep `Continues`: all
-- letters give the steps so far and what the rest gives (`letters_begin_with_letter`,
-- `continues_after_last_letter`, at the end `steps_are_all_steps` and `no_fault_at_end`, in
-- `LettersLaw.antt`). `read_steps_are_compressed_steps` shows that these are `compressed_steps`.
-- `proof_words_rise` (`RisingLaw.antt`) says that the places of the words ascend, so
-- `first_fault_is_refusal` (`OrderLaw.antt`) shows that the first fault found is the least.
pub mod UsableLaw
pub mod LeastLaw
pub mod RisingLaw
pub mod ReadLaw
pub mod NumberLaw
pub mod LettersLaw
pub mod BracketsLaw
pub mod OrderLaw
