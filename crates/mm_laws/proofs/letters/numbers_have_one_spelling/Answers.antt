use Rattle.mm_laws.proofs.NumeralsLaw.{numbers_have_one_spelling, book_numbers}
use Rattle.mm_laws.proofs.letters.numbers_have_one_spelling.Goals as goal

pub returns : goal.returns
returns c = record { one_spelling = numbers_have_one_spelling; book_numbers = book_numbers }
