use Rattle.std.proofs.Common.{arith, rules, ◌≡◌, ◌<◌, ◌^◌, ◌∙◌, length, sym, subst}
use Rattle.std.proofs.lemmas.Bool.Decides.{nat_tests}
use Rattle.std.proofs.lemmas.Bool.{eqb-true}
use Rattle.mm_frame.proofs.StretchesLaw.{none_are_joined, next_are_few, next_is_joined}
use Rattle.mm_frame.proofs.StretchesLaw.{all_are_joined}
use Rattle.mm_frame.proofs.stretches.joined_frames.Goals as goal

pub joining-init : goal.joining-init
joining-init g c = search (rules, arith, none_are_joined)

pub joined-requires : goal.joined-requires
joined-requires g c =
    let some_left : 0 < length c.joining.unjoined.items = search rules in
    let few_statements = subst (λ n. n < 2 ^ 31) c.requires.all_are_cut
    c.args.stretches.now.count_lt_2_31 in
    next_are_few c.args.statements.now.list c.args.stretches.now.size c.joining.frames
    c.in_ok-next.next c.joining.unjoined.items c.joining.invariant some_left
    c.in_ok-next.ensures.value few_statements

pub joining-preserved : goal.joining-preserved
joining-preserved g c =
    grind (
      arith,
      nat_tests,
      next_is_joined,
      c.joining.invariant,
      c.in_ok-next.ensures.value,
      c.in_ok-frames.ensures,
      c.in_ok-next.ensures.items,
    )

pub returns : goal.returns
returns g c =
    let none_left : length c.joining.unjoined.items ≡ 0 =
    sym c.joining.unjoined.ok.0
    ∙ eqb-true c.joining.unjoined.len 0 (sym c.is_empty.ensures ∙ c.joining-test.false) in
    all_are_joined c.args.statements.now.list c.args.stretches.now.size c.joining.frames
    c.joining.unjoined.items c.args.stretches.now.size_gt_0 c.joining.invariant none_left
