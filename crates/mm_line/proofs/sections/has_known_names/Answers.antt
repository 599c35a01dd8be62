use Rattle.std.proofs.Common.{lit<, rules, tests}
use Rattle.std.proofs.lemmas.Iterator.Search.{all_from_yields_List}
use Rattle.std.proofs.lemmas.Iterator.Splits.{YieldsList-from_str_split}
use Rattle.mm_spec.specs.Text.{is_in}
use Rattle.mm_line.specs.Lines.{section_names}
use Rattle.mm_line.proofs.sections.has_known_names.Goals as goal

pub returns : goal.returns
returns c =
    all_from_yields_List (λ name. is_in name section_names) _ _ c.all.result c.all.ensures.ran
    (YieldsList-from_str_split 44 c.args.text.now (lit< tt) c.split.ensures.text
    c.split.ensures.has_more c.split.ensures.pattern) (λ x b q k. search (rules, tests))
