use Rattle.std.proofs.Common.{List, sym, ap, ◌∙◌, ◌++◌}
use Rattle.mm_spec.specs.declared.Word.{Word}
use Rattle.mm_lex.specs.Between.{side}
use Rattle.mm_lex.proofs.PiecesLaw.{not_some_is_none, append_reading_inside, append_reading_outside}
use Rattle.mm_lex.proofs.modes.ModeReading.append_reading.Goals as goal
use Rattle.mm_lex.proofs.modes.ModeReading.append_reading.Goals.{then-is_open, else-is_open}

pub returns : goal.returns
returns g c text ws readings p =
    let no_fault = not_some_is_none _ (sym c.is_some.ensures ∙ c.if-is_some.false) in
    let items_are =
    c.in_ok-extend_from_slice.ensures.items
    ∙ ap (λ (ts : List Word). c.args.self.now.tokens.items ++ ts) c.deref.ensures.value in
    rw c.after-self.ensures
    (elim c.if-is_open.branch [
      | then-is_open w ↦ append_reading_inside text ws p (side c.args.self.now)
          (side c.if-is_open.next.now) _ (λ q. rw w.next-is (readings.read_inside q)) no_fault
          (sym (c.is_open.ensures p) ∙ w.if-is_open.true) items_are
      | else-is_open w ↦ append_reading_outside text ws p (side c.args.self.now)
          (side c.if-is_open.next.now) _ (λ q. rw w.next-is (readings.read_outside q)) no_fault
          (sym (c.is_open.ensures p) ∙ w.if-is_open.false) items_are
    ])
