use Rattle.std.proofs.Common.{◌<◌, ◌≡◌, ℕ, map, get_or, length, All, List}
use Rattle.std.proofs.lemmas.List.{take_all, get_or-map, length-map}
use Rattle.std.proofs.lemmas.List.Folds.{flat_map-map}
use Rattle.mm_spec.specs.Derivation.{pair}
use Rattle.mm_spec.specs.Frame.{symbol_names}
use Rattle.mm_spec.specs.Assertion.{pair_text}
use Rattle.mm_report.proofs.SentLaw.{sent_nothing}
use Rattle.mm_report.proofs.AssertionLaw.{AreBelow, sent_next}
use Rattle.mm_report.proofs.conditions.send_pairs.Goals as goal

-- the next pair is of symbols
item_below : (n : ℕ) (ps : List (ℕ × ℕ)) (i : ℕ) (p : ℕ × ℕ) → i < length ps → p ≡ get_or ps i p
    → All (AreBelow n) (map (λ (q : ℕ × ℕ). pair q.0 q.1) ps) → AreBelow n (pair p.0 p.1)
item_below n ps i p i_lt_length p_is are_below =
    rw p_is (rw (get_or-map (λ (q : ℕ × ℕ). pair q.0 q.1) ps i p (pair p.0 p.1) i_lt_length)
    at (are_below i (pair p.0 p.1) (rw length-map i_lt_length)))

pub send_pair-requires-clause-low_lt_count : goal.send_pair-requires-clause-low_lt_count
send_pair-requires-clause-low_lt_count g c =
    (item_below (length (symbol_names c.args.database.now.statements)) c.args.pairs.now
    c.loop-variables.variables-index c.variables-item.result c.loop-variables-test.true
    c.variables-item.is c.requires).0

pub send_pair-requires-clause-high_lt_count : goal.send_pair-requires-clause-high_lt_count
send_pair-requires-clause-high_lt_count g c =
    (item_below (length (symbol_names c.args.database.now.statements)) c.args.pairs.now
    c.loop-variables.variables-index c.variables-item.result c.loop-variables-test.true
    c.variables-item.is c.requires).1

pub loop-variables-init : goal.loop-variables-init
loop-variables-init g c = sent_nothing

pub loop-variables-preserved : goal.loop-variables-preserved
loop-variables-preserved g c =
    sent_next (λ (p : ℕ × ℕ). pair_text c.args.database.now.statements (pair p.0 p.1)) _
    c.variables-item.result c.loop-variables-test.true c.loop-variables.invariant
    (rw c.variables-item.is at c.send_pair.ensures)

pub returns : goal.returns
returns g c =
    rw (flat_map-map (pair_text c.args.database.now.statements)
    (λ (p : ℕ × ℕ). pair p.0 p.1) c.args.pairs.now)
    (rw (take_all c.loop-variables.variables-index c.args.pairs.now c.loop-variables-test.false)
    at c.loop-variables.invariant)
