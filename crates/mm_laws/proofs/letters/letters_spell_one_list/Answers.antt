use Rattle.std.proofs.Common.{rules, arith}
use Rattle.mm_laws.proofs.SpellingLaw.{parts_are_unique, spelled_items_are_unique}
use Rattle.mm_laws.proofs.SpellingLaw.{proofs_are_spelled}
use Rattle.mm_laws.proofs.letters.letters_spell_one_list.Goals as goal

pub returns : goal.returns
returns c = search (rules, arith, parts_are_unique, spelled_items_are_unique, proofs_are_spelled)
