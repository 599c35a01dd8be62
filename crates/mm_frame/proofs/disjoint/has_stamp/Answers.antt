use Rattle.std.proofs.Common.{◌∙◌, length, sym, true≢false}
use Rattle.std.proofs.lemmas.Bool.{false_from_ne_true, lt-ltb}
use Rattle.mm_spec.specs.Derivation.{is_member}
use Rattle.mm_frame.proofs.ChainsLaw.{member_lt_bound}
use Rattle.mm_frame.proofs.disjoint.has_stamp.Goals as goal

pub returns-in-None : goal.returns-in-None
returns-in-None c =
    sym (false_from_ne_true (is_member c.args.variables.now c.args.symbol) (λ is_one.
    let symbol_lt = member_lt_bound (length c.args.stamps.now) c.args.symbol c.args.variables.now
    c.requires.variables_lt_count is_one in
    true≢false (sym (lt-ltb c.args.symbol (length c.args.stamps.now) symbol_lt)
    ∙ sym c.in-None.ensures.lookup.0)))
