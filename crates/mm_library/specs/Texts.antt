-- What the texts of a call ask for.
use Rattle.mm_library.specs.Calls.{Asked, report_of, comparison_of, part_of}
use Rattle.mm_library.specs.declared.texts.Texts.{Texts}
use Rattle.mm_library.specs.declared.texts.Texts.TheVariants.{One, Two}

-- the report of the part of a text that is read, or the comparison of those of two
abbrev pub asked_of : Texts → Asked
asked_of (One text) = report_of (part_of text.now)
asked_of (Two old new) = comparison_of (part_of old.now) (part_of new.now)
