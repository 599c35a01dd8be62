use Rattle.std.proofs.Common.{◌≡◌, take}
use Rattle.std.specs.List.{list_all}
use Rattle.mm_spec.specs.Bytes.{is_printable}
use Rattle.mm_lex.proofs.roles.is_clean.Given as goal

abbrev pub invariant-loop-b : goal.invariant-loop-b
invariant-loop-b l = l.clean ≡ list_all is_printable (take l.b-index l.word)
