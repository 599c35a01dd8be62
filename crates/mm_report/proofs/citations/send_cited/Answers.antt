use Rattle.std.proofs.Common.{◌<◌, length, length-append, List, ℕ, map, get_or, true≢false, sym}
use Rattle.std.proofs.Common.{◌∙◌, ap, subst, arith, ◌∷◌, []}
use Rattle.std.specs.Option.{option_map}
use Rattle.std.proofs.lemmas.List.{take_all}
use Rattle.mm_spec.specs.Text.{Bytes}
use Rattle.mm_spec.specs.Report.{separated}
use Rattle.mm_spec.specs.Assertion.{label_at}
use Rattle.mm_report.specs.Rows.{next_label}
use Rattle.mm_report.proofs.SentLaw.{sent_both, sent_equal_text}
use Rattle.mm_report.proofs.CitationLaw.{labels, listed_before_unchanged, labels_with_listed}
use Rattle.mm_report.proofs.CitationLaw.{separated_push}
use Rattle.mm_report.proofs.citations.send_cited.Goals as goal
use Rattle.mm_report.proofs.citations.send_cited.Goals.{then-has_chosen_typecode}
use Rattle.mm_report.proofs.citations.send_cited.Goals.{else-has_chosen_typecode}

pub loop-statement-preserved : goal.loop-statement-preserved
loop-statement-preserved g c =
    let db = c.args.database.now.statements in
    let only = option_map (λ w. w.now) c.args.only in
    let cited = c.args.cited.now in
    let i = c.loop-statement.statement-index in
    let i_lt_length : i < length cited = c.loop-statement-test.true in
    elim c.if-has_chosen_typecode.branch [
      | then-has_chosen_typecode w ↦
          let labels_with_next =
          labels_with_listed db only cited i i_lt_length
          (sym c.has_chosen_typecode.ensures ∙ w.if-has_chosen_typecode.true) in
          let labels_count =
          ap (λ (xs : List Bytes). length xs) labels_with_next
          ∙ length-append (labels db only cited i) (label_at db (get_or cited i 0) ∷ []) in
          rw (w.is_first_label-is, w.sink-is, w.to-is) (record {
            first_label_has_none_before = λ false_is_true. absurd (true≢false (sym false_is_true));
            later_label_has_some_before = λ false_is_false. omega (arith, labels_count);
            sent =
                sent_equal_text _
                (sym (ap separated labels_with_next
                ∙ separated_push (labels db only cited i)
                (label_at db (get_or cited i 0))
                c.loop-statement.is_first_label
                c.loop-statement.invariant.first_label_has_none_before
                c.loop-statement.invariant.later_label_has_some_before))
                (sent_both c.loop-statement.invariant.sent
                (sent_equal_text _
                (ap (next_label c.loop-statement.is_first_label) w.label_of.ensures)
                w.send_next_label.ensures));
          })
      | else-has_chosen_typecode w ↦
          let labels_unchanged =
          ap (λ (xs : List ℕ). map (label_at db) xs)
          (listed_before_unchanged db only cited i i_lt_length
          (sym c.has_chosen_typecode.ensures ∙ w.if-has_chosen_typecode.false)) in
          rw (w.is_first_label-is, w.sink-is, w.to-is) (record {
            first_label_has_none_before = λ is_first. labels_unchanged
                ∙ c.loop-statement.invariant.first_label_has_none_before is_first;
            later_label_has_some_before = λ is_later.
                subst (λ (xs : List Bytes). 0 < length xs) (sym labels_unchanged)
                (c.loop-statement.invariant.later_label_has_some_before is_later);
            sent = sent_equal_text _ (sym (ap separated labels_unchanged))
                c.loop-statement.invariant.sent;
          })
    ]

pub returns : goal.returns
returns g c =
    rw (take_all c.loop-statement.statement-index c.args.cited.now c.loop-statement-test.false)
    at c.loop-statement.invariant.sent
