use Rattle.mm_spec.proofs.OpenedLaw.{counted_any, counted_hypotheses, counted_pairs}
use Rattle.std.proofs.Common.{rules, ◌≡◌, ◌∙◌, ℕ, List, is_some, true, sym, ap, refl, arith}
use Rattle.std.proofs.lemmas.Option.{same_Some}
use Rattle.std.specs.List.{list_any}
use Rattle.mm_spec.specs.Scope.{statement_at}
use Rattle.mm_spec.specs.Derivation.{Pair}
use Rattle.mm_spec.specs.Citation.{is_assertion}
use Rattle.mm_database.specs.Frames.{Mandatory, mandatory_at}
use Rattle.mm_database.proofs.FrameIndicesLaw.{frame_of_assertion}
use Rattle.mm_database.proofs.database.Database.share_frame.Goals as goal

pub are_shared-requires-clause-one_is_assertion :
    goal.are_shared-requires-clause-one_is_assertion
are_shared-requires-clause-one_is_assertion g c =
    search (rules, arith, counted_any, is_some, frame_of_assertion)

pub are_shared-requires-clause-other_is_assertion :
    goal.are_shared-requires-clause-other_is_assertion
are_shared-requires-clause-other_is_assertion g c =
    search (rules, arith, counted_any, is_some, frame_of_assertion)

pub returns : goal.returns
returns g c =
    let with_open = c.self.inside.with_open in
    let db = c.self.inside.reading.statements.list in
    let one_is_read : list_any is_assertion (statement_at db c.args.one) ≡ true =
    sym (counted_any with_open db is_assertion (λ l k xs e ps d. refl) c.args.one)
    ∙ (rw (← c.self.view_is) at c.requires.one_is_assertion) in
    let other_is_read : list_any is_assertion (statement_at db c.args.other) ≡ true =
    sym (counted_any with_open db is_assertion (λ l k xs e ps d. refl) c.args.other)
    ∙ (rw (← c.self.view_is) at c.requires.other_is_assertion) in
    let frames_are : c.are_shared.result ≡ true
    → mandatory_at db c.args.one ≡ mandatory_at db c.args.other =
    λ is_shared. same_Some _ _
    (sym (frame_of_assertion db c.args.one one_is_read)
    ∙ (rw c.self.invariant.frame_tables_are.frames at (c.are_shared.ensures is_shared))
    ∙ frame_of_assertion db c.args.other other_is_read) in
    rw (← c.self.view_is) (record {
      same_hypotheses = λ is_shared.
          ap (λ (f : ℕ → List ℕ). f c.args.one) (counted_hypotheses with_open db)
          ∙ ap (λ (m : Mandatory). m.hypotheses) (frames_are is_shared)
          ∙ ap (λ (f : ℕ → List ℕ). f c.args.other) (sym (counted_hypotheses with_open db));
      same_pairs = λ is_shared.
          ap (λ (f : ℕ → List Pair). f c.args.one) (counted_pairs with_open db)
          ∙ ap (λ (m : Mandatory). m.pairs) (frames_are is_shared)
          ∙ ap (λ (f : ℕ → List Pair). f c.args.other) (sym (counted_pairs with_open db));
    })
