use Rattle.std.proofs.Common.{rules, ◌∙◌, sym, length, arith}
use Rattle.std.proofs.lemmas.Grind.{common_steps}
use Rattle.std.specs.List.{range_with_len}
use Rattle.std.proofs.lemmas.List.{take_all, take_more, flat_map_more}
use Rattle.std.proofs.lemmas.List.Elements.{filter-append}
use Rattle.mm_spec.specs.Frame.{symbol_names}
use Rattle.mm_spec.specs.Assertion.{is_used, is_with_dummy}
use Rattle.mm_tell.proofs.ListsLaw.{dummies_rise}
use Rattle.mm_tell.proofs.PairsLaw.{pairs_of_filtered, partners_suffice}
use Rattle.mm_tell.proofs.pairs.list_pairs.Goals as goal

pub partners-others-requires : goal.partners-others-requires
partners-others-requires g c = search (rules, arith, dummies_rise, c.requires.are_dummies)

pub loop-low-preserved : goal.loop-low-preserved
loop-low-preserved g c =
    grind (arith, common_steps, partners_suffice, filter-append, flat_map_more, take_more)

pub returns : goal.returns
returns g c =
    let db = c.args.database.now.statements in
    let all_numbers = range_with_len 0 (length (symbol_names db)) in
    (rw (
      take_all c.loop-low.low-index c.args.used_variables.now (omega (
        arith,
        c.loop-low-test.false,
      )),
      c.requires.are_used,
    ) at c.loop-low.invariant)
    ∙ sym (pairs_of_filtered (is_used db c.args.theorem) (is_with_dummy db c.args.theorem)
    all_numbers all_numbers)
