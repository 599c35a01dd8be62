use Rattle.std.proofs.Common.{◌≢◌, ◌∙◌, ◌++◌, ◌∷◌, [], ℕ, Some, None, is_some, Option, length}
use Rattle.std.proofs.Common.{get_or, refl, sym, ap, ◌-◌, Bool, List, if◌then◌else◌}
use Rattle.std.proofs.lemmas.Bool.{eq-eqb}
use Rattle.mm_spec.specs.Derivation.{is_member}
use Rattle.mm_spec.specs.Frame.{symbol_names}
use Rattle.mm_outline.specs.Blocks.{never}
use Rattle.mm_database.specs.Frames.{Mandatory}
use Rattle.mm_database.proofs.NamesLaw.{on_ok_then}
use Rattle.mm_frame.specs.Neighbours.{is_further}
use Rattle.mm_frame.proofs.NeighboursLaw.{essential_lists_stay, previous_has_frame, taken_over}
use Rattle.mm_frame.proofs.NeighboursLaw.{ready_after_assertion, fresh_later}
use Rattle.mm_frame.proofs.frames.add_assertion.Goals as goal

pub list_further-requires-clause-same_are_essential :
    goal.list_further-requires-clause-same_are_essential
list_further-requires-clause-same_are_essential g c = λ is_same.
    let db = c.args.sources.now.statements.now.list in
    let k = c.args.assertion in
    let scope = c.is_same_scope-is_same_scope.ensures is_same in
    essential_lists_stay db c.args.from k c.args.scratch.now scope.1
    (c.requires.is_ready.previous_is_known scope.0)
    (c.requires.is_ready.previous_is_assertion scope.0).1

pub add_shared-requires : goal.add_shared-requires
add_shared-requires g c =
    let db = c.args.sources.now.statements.now.list in
    let scope = c.is_same_scope-is_same_scope.ensures c.if-is_same_scope.true in
    ap (λ (p : ℕ). is_some (get_or c.args.frames.now p None)) c.index_from-previous.ensures
    ∙ ap is_some (previous_has_frame db c.args.from c.args.assertion c.args.scratch.now
    c.requires.is_ready c.args.frames.now c.requires.are_frames scope.0)

pub returns-then-are_same-clause-is_ready : goal.returns-then-are_same-clause-is_ready
returns-then-are_same-clause-is_ready g c =
    let db = c.args.sources.now.statements.now.list in
    let k = c.args.assertion in
    let same_list = sym c.deref.ensures.value ∙ c.are_same.ensures c.if-are_same.true
    ∙ c.deref-then-is_same_scope.ensures.value in
    let ready =
    ready_after_assertion db c.args.from k c.args.scratch.now _ refl
    c.requires.from_le_assertion c.requires.is_assertion c.in_ok-list_further.ensures.are_essential
    (fresh_later (length (symbol_names db)) k c.args.scratch.now.lists.stamps.items
    c.requires.is_ready.frame_stamps_are_fresh)
    (λ x. ap (λ (xs : List ℕ). is_member xs x) (sym same_list)
    ∙ c.in_ok-list_further.ensures.are_further x) in
    on_ok_then c.add_shared.result c.add_shared.ensures (λ pushed. ready)

pub returns-then-are_same-clause-frame_is_added : goal.returns-then-are_same-clause-frame_is_added
returns-then-are_same-clause-frame_is_added g c =
    let db = c.args.sources.now.statements.now.list in
    let k = c.args.assertion in
    let s = c.args.scratch.now in
    let scope = c.is_same_scope-is_same_scope.ensures c.if-is_same_scope.true in
    let same_list = sym c.deref.ensures.value ∙ c.are_same.ensures c.if-are_same.true
    ∙ c.deref-then-is_same_scope.ensures.value in
    let scope_stays = c.in_ok-list_further.ensures.same_stay c.if-is_same_scope.true in
    let frame_is =
    ap (λ (p : ℕ). get_or c.args.frames.now p None) c.index_from-previous.ensures
    ∙ previous_has_frame db c.args.from k s c.requires.is_ready c.args.frames.now
    c.requires.are_frames scope.0
    ∙ ap Some (sym (taken_over db c.args.from k s scope.1
    (c.requires.is_ready.previous_is_known scope.0) c.list_further.new.further.items same_list
    (λ x. c.in_ok-list_further.ensures.are_further x
    ∙ ap (λ v. is_further db k v.variables.items x) scope_stays))) in
    on_ok_then c.add_shared.result c.add_shared.ensures
    (λ pushed. pushed ∙ ap (λ (o : Option Mandatory). c.args.frames.now ++ o ∷ []) frame_is)

pub add_listed-requires-clause-has_frame : goal.add_listed-requires-clause-has_frame
add_listed-requires-clause-has_frame g c = λ is_some_index.
    let db = c.args.sources.now.statements.now.list in
    let s = c.args.scratch.now in
    let index_is = c.index_from-previous.ensures in
    let has_previous : s.previous ≢ never =
    λ is_never. is_some_index (index_is ∙ ap (λ (d : Bool). if d then never else s.previous -
    c.args.from)
    (eq-eqb s.previous never is_never)) in
    ap (λ (p : ℕ). is_some (get_or c.args.frames.now p None)) index_is
    ∙ ap is_some (previous_has_frame db c.args.from c.args.assertion s
    c.requires.is_ready c.args.frames.now c.requires.are_frames has_previous)

pub returns-clause-is_ready : goal.returns-clause-is_ready
returns-clause-is_ready g c =
    let db = c.args.sources.now.statements.now.list in
    let k = c.args.assertion in
    ready_after_assertion db c.args.from k c.args.scratch.now _ refl
    c.requires.from_le_assertion c.requires.is_assertion c.in_ok-list_further.ensures.are_essential
    c.in_ok-list_frame.ensures.are_fresh
    (λ x. ap (λ v. is_member v.items x) c.swap.ensures.y_after
    ∙ c.in_ok-list_further.ensures.are_further x)
