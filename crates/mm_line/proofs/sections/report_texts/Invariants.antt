use Rattle.std.proofs.Common.{◌≡◌, ◌++◌, map, take}
use Rattle.std.specs.Prelude.{flat_map}
use Rattle.mm_line.specs.Lines.{known_parts, section_names}
use Rattle.mm_line.proofs.sections.report_texts.Given as goal

abbrev pub invariant-loop-word : goal.invariant-loop-word
invariant-loop-word g l =
    map (λ t. t.now) l.texts.items
    ≡ section_names ++ flat_map known_parts (map g.S.AsStr.text (take l.word-index l.words))
