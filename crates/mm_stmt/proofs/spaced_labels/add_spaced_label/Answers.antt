use Rattle.std.proofs.Common.{◌∙◌, ◌++◌, ◌∷◌, [], ap, append_assoc}
use Rattle.std.proofs.lemmas.Result.{on_ok_weaker}
use Rattle.mm_stmt.proofs.spaced_labels.add_spaced_label.Goals as goal

pub returns-clause-label_is_added : goal.returns-clause-label_is_added
returns-clause-label_is_added g c =
    let bytes = c.args.bytes.now.items in
    on_ok_weaker c.end_list.result (λ end_is_added.
    c.in_ok-extend_from_slice.ensures.items
    ∙ ap (λ l. l ++ c.label_of.result.now) c.in_ok-push.ensures.items
    ∙ append_assoc bytes (32 ∷ []) c.label_of.result.now
    ∙ ap (λ l. bytes ++ 32 ∷ l) c.label_of.ensures) c.end_list.ensures.bound_is_added
