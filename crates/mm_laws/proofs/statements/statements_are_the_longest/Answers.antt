use Rattle.std.proofs.Common.{sym}
use Rattle.mm_spec.proofs.LongestLaw.{read_statements_are_longest, longest_is_what_is_read}
use Rattle.mm_laws.proofs.statements.statements_are_the_longest.Goals as goal

pub returns : goal.returns
returns c = record {
  are_longest = read_statements_are_longest;
  no_other_list = λ ts list list_is_longest. sym (longest_is_what_is_read ts list list_is_longest);
}
