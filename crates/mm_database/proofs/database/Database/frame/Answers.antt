use Rattle.mm_spec.proofs.OpenedLaw.{counted_length, counted_any, counted_hypotheses, counted_pairs}
use Rattle.std.proofs.Common.{rules, ◌≡◌, ◌∙◌, ℕ, List, is_some, true, sym, ap, refl, arith}
use Rattle.std.proofs.lemmas.Option.{same_Some}
use Rattle.std.specs.List.{list_any}
use Rattle.mm_spec.specs.Scope.{statement_at}
use Rattle.mm_spec.specs.Derivation.{Pair}
use Rattle.mm_spec.specs.Citation.{is_assertion}
use Rattle.mm_database.specs.Frames.{Mandatory, mandatory_at, mandatory_in}
use Rattle.mm_database.proofs.FrameIndicesLaw.{frame_of_assertion}
use Rattle.mm_database.proofs.database.Database.frame.Goals as goal

pub of-requires : goal.of-requires
of-requires g c = search (rules, arith, counted_any, is_some, frame_of_assertion)

pub returns : goal.returns
returns g c =
    let with_open = c.self.inside.with_open in
    let db = c.self.inside.reading.statements.list in
    let k = c.args.assertion in
    let is_assertion_read : list_any is_assertion (statement_at db k) ≡ true =
    sym (counted_any with_open db is_assertion (λ l k xs e ps d. refl) k)
    ∙ (rw (← c.self.view_is) at c.requires) in
    let frame_is : mandatory_in c.of.result.now ≡ mandatory_at db k = same_Some _ _
    (sym c.of.ensures ∙ (rw c.self.invariant.frame_tables_are.frames
    (frame_of_assertion db k is_assertion_read))) in
    rw (← c.self.view_is) (record {
      hypotheses = ap (λ (m : Mandatory). m.hypotheses) frame_is
          ∙ ap (λ (f : ℕ → List ℕ). f k) (sym (counted_hypotheses with_open db));
      pairs = ap (λ (m : Mandatory). m.pairs) frame_is
          ∙ ap (λ (f : ℕ → List Pair). f k) (sym (counted_pairs with_open db));
      few_statements = rw (counted_length with_open db) c.self.invariant.few_statements;
    })
