use Rattle.std.proofs.Common.{◌≡◌, ◌-◌, drop}
use Rattle.mm_spec.specs.Roles.{has_comment_mark}
use Rattle.mm_lex.proofs.roles.has_comment_mark.Given as goal

abbrev pub invariant-loop-i : goal.invariant-loop-i
invariant-loop-i l = has_comment_mark l.word ≡ has_comment_mark (drop (l.i - 1) l.word)
