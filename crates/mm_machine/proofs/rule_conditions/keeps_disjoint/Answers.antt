use Rattle.std.proofs.Common.{◌≡◌, ℕ, ◌<◌, ◌∙◌, IfOk, List, All, length, get_or, sym, ap, ap₂}
use Rattle.std.proofs.Common.{arith, subst}
use Rattle.std.proofs.lemmas.Bool.Decides.{nat_tests}
use Rattle.std.specs.List.{list_all}
use Rattle.std.proofs.lemmas.List.{get_or_default}
use Rattle.std.proofs.lemmas.List.Folds.{list_all_at}
use Rattle.mm_spec.specs.Frame.{symbol_names}
use Rattle.mm_nodes.specs.Strings.{string_of}
use Rattle.mm_machine.specs.Entries.{no_entry}
use Rattle.mm_machine.specs.Filled.{body_string_at}
use Rattle.mm_machine.specs.Distinct.{are_bodies_disjoint}
use Rattle.mm_machine.specs.Masks.{AreDisjointMasks}
use Rattle.mm_machine.proofs.OwnersLaw.{list_all_next, disjoint_if_apart, body_masked}
use Rattle.mm_machine.proofs.StepLaw.{body_in_range}
use Rattle.mm_machine.proofs.rule_conditions.keeps_disjoint.Goals as goal

pub bodies_are_disjoint-requires-clause-first_are_symbols :
    goal.bodies_are_disjoint-requires-clause-first_are_symbols
bodies_are_disjoint-requires-clause-first_are_symbols g c =
    let w = length (symbol_names c.args.database.now.statements) in
    let es = c.args.premises.now in
    let j = (get_or c.args.pairs.now c.loop-pair.pair-index (0, 0)).0 in
    let j_lt = (c.requires.pairs_in_range c.loop-pair.pair-index (0, 0) c.loop-pair-test.true).0 in
    subst (λ (u : List ℕ). All (λ s. s < w) u)
    (sym (ap₂ (λ ns x. string_of ns x.body) c.loop-pair.invariant.nodes_stay
    (c.index-premises-pair.is ∙ get_or_default es j c.index-premises-pair.result no_entry j_lt)))
    (body_in_range w c.args.nodes.now es j c.requires.formulas_in_range j_lt)

pub bodies_are_disjoint-requires-clause-second_are_symbols :
    goal.bodies_are_disjoint-requires-clause-second_are_symbols
bodies_are_disjoint-requires-clause-second_are_symbols g c =
    let w = length (symbol_names c.args.database.now.statements) in
    let es = c.args.premises.now in
    let j = (get_or c.args.pairs.now c.loop-pair.pair-index (0, 0)).1 in
    let j_lt = (c.requires.pairs_in_range c.loop-pair.pair-index (0, 0) c.loop-pair-test.true).1 in
    subst (λ (u : List ℕ). All (λ s. s < w) u)
    (sym (ap₂ (λ ns x. string_of ns x.body) c.loop-pair.invariant.nodes_stay
    (c.index-premises-pair-in-loop-pair.is
    ∙ get_or_default es j c.index-premises-pair-in-loop-pair.result no_entry j_lt)))
    (body_in_range w c.args.nodes.now es j c.requires.formulas_in_range j_lt)

pub returns-then-count-gt-MAX_SYMBOL_PAIRS-clause-tells_disjoint :
    goal.returns-then-count-gt-MAX_SYMBOL_PAIRS-clause-tells_disjoint
returns-then-count-gt-MAX_SYMBOL_PAIRS-clause-tells_disjoint g c =
    let db = c.args.database.now.statements in
    let es = c.args.premises.now in
    subst (λ (ns : List (List ℕ)). IfOk c.long_formulas_are_disjoint.result
    (λ r. r ≡ list_all (are_bodies_disjoint db c.args.theorem ns es) c.args.pairs.now))
    c.loop-pair.invariant.nodes_stay c.long_formulas_are_disjoint.ensures.tells_disjoint

pub returns-then-not-are_disjoint-clause-tells_disjoint :
    goal.returns-then-not-are_disjoint-clause-tells_disjoint
returns-then-not-are_disjoint-clause-tells_disjoint g c =
    grind (
      arith,
      nat_tests,
      get_or_default,
      list_all_at,
      c.requires.pairs_in_range,
      c.loop-pair-test.true,
      c.loop-pair.invariant.nodes_stay,
      c.in_ok-are_disjoint.ensures.tells_disjoint,
      c.if-not-are_disjoint.true,
    )

pub loop-pair-preserved-then-are_disjoint_by_masks :
    goal.loop-pair-preserved-then-are_disjoint_by_masks
loop-pair-preserved-then-are_disjoint_by_masks g c =
    let db = c.args.database.now.statements in
    let t = c.args.theorem in
    let w = length (symbol_names db) in
    let vs = c.args.owners.now.variable_flags in
    let owners = c.args.owners.now.symbols in
    let nodes = c.args.nodes.now in
    let es = c.args.premises.now in
    let p = get_or c.args.pairs.now c.loop-pair.pair-index (0, 0) in
    let in_range = c.requires.pairs_in_range c.loop-pair.pair-index (0, 0) c.loop-pair-test.true in
    let e = c.index-premises-pair.result in
    let f = c.index-premises-pair-in-loop-pair.result in
    let e_is : e ≡ get_or es p.0 no_entry =
    c.index-premises-pair.is ∙ get_or_default es p.0 e no_entry in_range.0 in
    let f_is : f ≡ get_or es p.1 no_entry =
    c.index-premises-pair-in-loop-pair.is ∙ get_or_default es p.1 f no_entry in_range.1 in
    let are_apart : AreDisjointMasks db t owners e.mask f.mask =
    subst (λ (os : List ℕ). AreDisjointMasks db t os e.mask f.mask) c.symbols.ensures
    (c.are_disjoint_by_masks.ensures.are_apart c.if-are_disjoint_by_masks.true) in
    let masks_are_apart : AreDisjointMasks db t owners (get_or es p.0 no_entry).mask
    (get_or es p.1 no_entry).mask =
    subst (λ m. AreDisjointMasks db t owners m (get_or es p.1 no_entry).mask)
    (ap (λ x. x.mask) e_is)
    (subst (λ m. AreDisjointMasks db t owners e.mask m) (ap (λ x. x.mask) f_is) are_apart) in
    record {
      nodes_stay = c.loop-pair.invariant.nodes_stay;
      so_far =
          list_all_next (are_bodies_disjoint db t nodes es) c.args.pairs.now c.loop-pair.pair-index
          (0, 0) c.loop-pair-test.true c.loop-pair.invariant.so_far
          (disjoint_if_apart db t vs owners c.requires.are_variables
          (get_or es p.0 no_entry).mask (get_or es p.1 no_entry).mask
          (body_string_at nodes es p.0) (body_string_at nodes es p.1) masks_are_apart
          (body_masked vs owners nodes es p.0 c.requires.are_masked in_range.0)
          (body_in_range w nodes es p.0 c.requires.formulas_in_range in_range.0)
          (body_masked vs owners nodes es p.1 c.requires.are_masked in_range.1)
          (body_in_range w nodes es p.1 c.requires.formulas_in_range in_range.1));
      cache = c.are_disjoint_by_masks.ensures.cached_are_disjoint;
    }
