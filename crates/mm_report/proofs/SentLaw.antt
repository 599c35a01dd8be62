-- Texts sent one after the other.
use Rattle.std.proofs.Common.{rules, append-nil, inl, inr, decimal, ltb, eqb, ◌<◌, count_by, map}
use Rattle.std.proofs.Common.{◌≡◌, ℕ, ◌+◌, ◌≤◌, Bool, true, false, List, [], ◌∷◌, ◌++◌, length}
use Rattle.std.proofs.Common.{take, min, Option, refl, sym, ap, ◌∙◌, subst, arith, append_assoc}
use Rattle.std.proofs.Common.{zero, suc, zero-add, add-zero, true≢false}
use Rattle.std.proofs.lemmas.Grind.{common_steps}
use Rattle.std.specs.Io.KnownBytes.{Appends}
use Rattle.std.proofs.KnownBytes.{Appends-nil, Appends-trans}
use Rattle.std.proofs.Math.Seq.{take-append-add}
use Rattle.std.proofs.lemmas.List.{take-append-le, take_min, take_all, append-nil}
use Rattle.std.proofs.lemmas.Bool.{cases_Bool, agree_below_at, lt-ltb, le-ltb}
use Rattle.std.specs.Fmt.{digits}
use Rattle.std.specs.Prelude.{Result, Ok, Err, OnOk, OnErr}
use Rattle.mm_spec.specs.Report.{two_digits}
use Rattle.mm_report.specs.Sent.{Pending, pending, Sent}
use Rattle.std.specs.List.{range_with_len}
use Rattle.mm_rows.specs.Marks.{Marks, mark}
use Rattle.mm_report.specs.Rows.{marks_of}

-- nothing is written if the text is held, and no text is sent past a failure
sent_without_writing : {a : Option (List ℕ)} {s t : Pending} {x : List ℕ}
    → (t.failed ≡ false → (s.failed ≡ false) × (t.held ≡ s.held ++ x)) → Sent a a s t x
sent_without_writing h1 = grind (arith, common_steps, Appends-nil)

-- if nothing changes, nothing was sent
pub sent_nothing : {a : Option (List ℕ)} {s : Pending} → Sent a a s s []
sent_nothing {s = s} = sent_without_writing (λ not_failed. (not_failed, sym (append-nil s.held)))

-- the text that was sent may be replaced by an equal one
pub sent_equal_text : {a b : Option (List ℕ)} {s t : Pending} {x : List ℕ} (y : List ℕ) → x ≡ y
    → Sent a b s t x → Sent a b s t y
sent_equal_text {a} {b} {s} {t} {x} y x_is_y sent = subst (Sent a b s t) x_is_y sent

-- two texts that were sent one after the other are one text that was sent
pub sent_both : {a b c : Option (List ℕ)} {r s t : Pending} {x y : List ℕ} → Sent a b r s x
    → Sent b c s t y → Sent a c r t (x ++ y)
sent_both {r = r} {s} {t} {x} {y} sent sent_then = record {
  bytes = sent.bytes ++ sent_then.bytes;
  is_written = Appends-trans _ _ _ _ _ sent.is_written sent_then.is_written;
  if_not_failed =
      λ t_not_failed. let y_sent = sent_then.if_not_failed t_not_failed in (
        (sent.if_not_failed y_sent.0).0,
        append_assoc sent.bytes sent_then.bytes t.held ∙ ap (λ z. sent.bytes ++ z) y_sent.1
            ∙ both_held y_sent.0,
      );
  is_prefix = elim (cases_Bool s.failed) [
    | inl s_failed ↦ (
      min sent.is_prefix.0 (length (r.held ++ x)),
      rw (sent_then.if_failed_before s_failed, append-nil, sym (append_assoc r.held x y))
          (sent.is_prefix.1 ∙ sym (take_min sent.is_prefix.0 (r.held ++ x))
          ∙ sym (take-append-le _ (r.held ++ x) y (omega arith))),
    )
    | inr s_not_failed ↦ (
      length sent.bytes + sent_then.is_prefix.0,
      ap (λ z. sent.bytes ++ z) sent_then.is_prefix.1
          ∙ sym (take-append-add sent.bytes (s.held ++ y) sent_then.is_prefix.0)
          ∙ ap (take _) (both_held s_not_failed),
    )
  ];
  if_failed_before = λ r_failed. elim (cases_Bool s.failed) [
    | inl s_failed ↦ rw (sent.if_failed_before r_failed) (sent_then.if_failed_before s_failed)
    | inr s_not_failed ↦
        absurd (true≢false (sym r_failed ∙ (sent.if_not_failed s_not_failed).0))
  ];
}
  where
    both_held : s.failed ≡ false → sent.bytes ++ (s.held ++ y) ≡ r.held ++ (x ++ y)
    both_held s_not_failed =
        sym (append_assoc sent.bytes s.held y)
        ∙ ap (λ z. z ++ y) (sent.if_not_failed s_not_failed).1 ∙ append_assoc r.held x y

-- after a failure anything counts as sent, though nothing is written
pub sent_after_failure : {a : Option (List ℕ)} {s : Pending} {x : List ℕ} → s.failed ≡ true
    → Sent a a s s x
sent_after_failure has_failed = grind (arith, common_steps, sent_without_writing, true≢false)

-- a piece was sent if it is appended to the bytes that are held
pub sent_if_held : {a : Option (List ℕ)} {s t : Pending} {x : List ℕ} → t.held ≡ s.held ++ x
    → t.failed ≡ s.failed → Sent a a s t x
sent_if_held is_held failed_unchanged = grind (arith, common_steps, sent_without_writing)

-- if all that was held and then a piece are written, and nothing is held any more, it was sent
sent_if_all_written : {a b : Option (List ℕ)} {s t : Pending} {x : List ℕ}
    → Appends a b (s.held ++ x) → s.failed ≡ false → t.held ≡ [] → Sent a b s t x
sent_if_all_written {s = s} {x = x} appends s_not_failed nothing_held =
    record {
      bytes = s.held ++ x;
      is_written = appends;
      if_not_failed = λ t_not_failed. (s_not_failed, rw nothing_held (append-nil (s.held ++ x)));
      is_prefix = (length (s.held ++ x), sym (take_all _ (s.held ++ x) (omega arith)));
      if_failed_before = λ s_failed. absurd (true≢false (sym s_failed ∙ s_not_failed));
    }

-- if all that was held is written, and nothing is held any more, nothing further was sent
pub sent_if_flushed : {a b : Option (List ℕ)} {s t : Pending} → Appends a b s.held
    → s.failed ≡ false → t.held ≡ [] → Sent a b s t []
sent_if_flushed {s = s} appends = sent_if_all_written (rw append-nil appends)

-- a piece was sent if it was written past an empty buffer
pub sent_if_written_directly : {a b : Option (List ℕ)} {s t : Pending} {x : List ℕ}
    → Appends a b x → s.failed ≡ false → s.held ≡ [] → t.held ≡ [] → Sent a b s t x
sent_if_written_directly appends s_not_failed s_holds_nothing =
    sent_if_all_written (rw s_holds_nothing appends) s_not_failed

-- the items that pass a test are as many as the tests that are true
count_of_mapped : {X : Type 0} (p : X → Bool) (xs : List X)
    → count_by p xs ≡ count_by (λ b. b) (map p xs)
count_of_mapped p xs = grind (arith, common_steps)

-- the marks of a row, counted by columns, are its marks that are set
pub marks_counted : (m : Marks) (i : ℕ)
    → count_by (λ j. mark m i j) (range_with_len 0 m.columns) ≡ count_by (λ b. b) (marks_of m i)
marks_counted m i = count_of_mapped (λ j. mark m i j) (range_with_len 0 m.columns)

-- the a + n numbers from b on are the first a of them and the n after these
pub range_append : (b a n : ℕ)
    → range_with_len b (a + n) ≡ range_with_len b a ++ range_with_len (b + a) n
range_append b zero n = rw (zero-add n, add-zero b) refl
range_append b (suc a) n =
    let suc_a_plus_n_is_suc : suc a + n ≡ suc (a + n) = omega arith in
    let next_start_is_suc : b + 1 + a ≡ b + suc a = omega arith in
    rw suc_a_plus_n_is_suc (ap (λ r. b ∷ r) (rw next_start_is_suc at (range_append (b + 1) a n)))

-- what was sent was written whole, if nothing failed and nothing is held any more
sent_is_written : {a b c : Option (List ℕ)} {s t : Pending} {x : List ℕ}
    → Sent a b (pending [] false) s x → Sent b c s t [] → t.failed ≡ false → t.held ≡ []
    → Appends a c x
sent_is_written h1 h2 h3 h4 = grind (arith, common_steps, sent_both, append-nil)

-- in any case a prefix of what was sent was written
sent_prefix_is_written : {a b c : Option (List ℕ)} {s t : Pending} {x : List ℕ}
    → Sent a b (pending [] false) s x → Sent b c s t [] → (k : ℕ) × Appends a c (take k x)
sent_prefix_is_written {a} {c = c} sent sent_then =
    let both_sent = sent_both sent sent_then in (
      both_sent.is_prefix.0,
      subst (Appends a c) (simp append-nil at both_sent.is_prefix.1) both_sent.is_written,
    )

-- the numbers with one digit are those below ten
one_digit_iff_below_ten : (n : ℕ) → n < 100 → (eqb (length (decimal n)) 1) ≡ ltb n 10
unfolding digits
one_digit_iff_below_ten n n_lt_100 =
    agree_below_at (λ k. eqb (length (decimal k)) 1) (λ k. ltb k 10) 100 n refl n_lt_100

-- a number below ten has two digits with a `0` before it
pub two_digits_below_ten : (n : ℕ) → n < 10 → 48 ∷ decimal n ≡ two_digits n
two_digits_below_ten n n_lt_10 = search (rules, arith, one_digit_iff_below_ten, lt-ltb)

-- a number from ten on has two digits as it is
pub two_digits_from_ten : (n : ℕ) → n < 100 → 10 ≤ n → decimal n ≡ two_digits n
two_digits_from_ten n n_lt_100 ten_le_n = rw (one_digit_iff_below_ten, le-ltb) refl

-- What was sent through a new buffer was written if flushing it succeeded, and a prefix of it was
-- if that failed.
pub written_by_result : {T E : Type 0} {a b c : Option (List ℕ)} {r s t : Pending} {x : List ℕ}
    → (result : Result T E) → r ≡ pending [] false → Sent a b r s x → Sent b c s t []
    → OnOk result ((t.failed ≡ false) × (t.held ≡ []))
    → OnOk result (Appends a c x) × OnErr result ((k : ℕ) × Appends a c (take k x))
written_by_result (Ok _) is_new sent flushed nothing_left =
    (sent_is_written (rw is_new at sent) flushed nothing_left.0 nothing_left.1, tt)
written_by_result (Err _) is_new sent flushed nothing_left =
    (tt, sent_prefix_is_written (rw is_new at sent) flushed)

-- a label, a number and labels, put together piece by piece
pub list_line_regrouped : (l d j : List ℕ)
    → (((((l ++ 58 ∷ []) ++ d) ++ 58 ∷ []) ++ j) ++ 10 ∷ []) ≡ (l ++ 58 ∷ (d ++ 58 ∷ j)) ++ 10 ∷ []
list_line_regrouped l d j = grind (arith, common_steps)
