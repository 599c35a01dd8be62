use Rattle.std.proofs.Common.{◌≡◌, ◌+◌, ◌<◌, ◌∷◌, ◌∙◌, [], get_or, length, sym, ap, subst, arith}
use Rattle.std.proofs.Common.{inl, refl}
use Rattle.std.proofs.lemmas.List.{get_or_default}
use Rattle.std.proofs.lemmas.List.Elements.{All-get_or}
use Rattle.mm_nodes.specs.Strings.{first_node, string_of}
use Rattle.mm_rule.specs.declared.rule.RulePart.TheVariants.{Constant, Variable}
use Rattle.mm_rule.specs.Rule.{IsConstantBelow, IsVariableBelow}
use Rattle.mm_machine.specs.Entries.{no_entry, IsEntry}
use Rattle.mm_machine.specs.Filled.{filled_part}
use Rattle.mm_machine.specs.Masks.{IncludesPart}
use Rattle.mm_machine.proofs.FilledLaw.{body_written, premise_written, none_written}
use Rattle.mm_machine.proofs.FilledLaw.{symbol_string_is, nil_if_no_length, too_long_if_front_is}
use Rattle.mm_machine.proofs.OwnersLaw.{includes_more, includes_variable, itself_included}
use Rattle.mm_machine.proofs.entry.fill.Goals.{
  in-Constant,
  in-Variable+else-premise-gt0,
  in-Variable+then-premise-gt0+else-more-gt-FORMULA_LIMIT,
}
use Rattle.mm_machine.proofs.entry.fill.Goals as goal

pub loop-part-preserved : goal.loop-part-preserved
loop-part-preserved g c =
    let nodes = c.args._nodes.now in
    let es = c.args.premises.now in
    let parts = c.args.parts.now in
    let i = c.loop-part.part-index in
    let p = c.part-item.result in
    let i_lt : i < length parts = c.loop-part-test.true in
    let before = c.loop-part.invariant in
    elim c.match-to_part.branch [
      | in-Constant w ↦
          let s = w.in-Constant.symbol in
          let p_is : p ≡ Constant s = sym c.to_part.ensures.part_is ∙ w.in-Constant.is in
          let b_is : w.symbol.result ≡ s = w.symbol.ensures ∙ w.number.ensures in
          let s_lt : s < first_node =
          subst (IsConstantBelow first_node) w.in-Constant.is c.to_part.ensures.constant_is_below in
          let string_is : string_of nodes w.symbol.result ≡ s ∷ [] =
          ap (string_of nodes) b_is ∙ symbol_string_is nodes s s_lt in
          rw (w.list-is, w.count-is, w.more-is, w.greatest-is, w.mask-is) (record {
            is_written =
                body_written nodes es parts c.loop-part.list w.put_body.new.list c.loop-part.count
                (c.loop-part.count + c.loop-part.more) c.loop-part.greatest i p before.is_written
                i_lt c.part-item.is w.symbol.result c.loop-part.greatest _
                w.put_body.ensures.is_written (string_is ∙ ap (filled_part nodes es) (sym p_is))
                (omega (arith, ap length string_is))
                (inl (omega (arith, b_is, s_lt))) (omega arith) before.is_written.greatest_lt;
            more_le_limit = before.more_le_limit;
            includes_masks =
                includes_more es parts i c.loop-part.mask c.loop-part.mask p i_lt c.part-item.is
                (itself_included c.loop-part.mask)
                (subst (IncludesPart es c.loop-part.mask) (sym p_is) tt) before.includes_masks;
          })
      | in-Variable+then-premise-gt0+else-more-gt-FORMULA_LIMIT w ↦
          let j = w.in-Variable.floating_index in
          let p_is : p ≡ Variable j = sym c.to_part.ensures.part_is ∙ w.in-Variable.is in
          let j_lt : j < length es =
          subst (IsVariableBelow (length es)) (sym c.part-item.is ∙ p_is)
          (c.requires.variables_in_range i p i_lt) in
          let e = w.index-premises-floating_index.result in
          let e_is : e ≡ get_or es j no_entry =
          w.index-premises-floating_index.is ∙ get_or_default es j e no_entry j_lt in
          rw (w.list-is, w.count-is, w.more-is, w.greatest-is, w.mask-is) (record {
            is_written =
                premise_written nodes es parts c.loop-part.list w.put_body-then-premise-gt0.new.list
                c.loop-part.count (c.loop-part.count + c.loop-part.more) c.loop-part.greatest i p
                before.is_written i_lt c.part-item.is j c.loop-part.more w.greater-greatest.result e
                p_is e_is (subst (IsEntry nodes) (sym e_is) (All-get_or (IsEntry nodes) es j
                no_entry j_lt c.requires.are_entries)) w.if-premise-gt0.true refl
                w.put_body-then-premise-gt0.ensures.is_written w.greater-greatest.ensures.first_le
                w.greater-greatest.ensures.second_le
                w.greater-greatest.ensures.is_one_of_both;
            more_le_limit = w.if-more-gt-FORMULA_LIMIT.false;
            includes_masks =
                includes_variable es parts i c.loop-part.mask p i_lt c.part-item.is j p_is e e_is
                before.includes_masks;
          })
      | in-Variable+else-premise-gt0 w ↦
          let j = w.in-Variable.floating_index in
          let p_is : p ≡ Variable j = sym c.to_part.ensures.part_is ∙ w.in-Variable.is in
          let j_lt : j < length es =
          subst (IsVariableBelow (length es)) (sym c.part-item.is ∙ p_is)
          (c.requires.variables_in_range i p i_lt) in
          let e = w.index-premises-floating_index.result in
          let e_is : e ≡ get_or es j no_entry =
          w.index-premises-floating_index.is ∙ get_or_default es j e no_entry j_lt in
          rw (w.list-is, w.count-is, w.more-is, w.greatest-is, w.mask-is) (record {
            is_written =
                none_written nodes es parts c.loop-part.list c.loop-part.list c.loop-part.count
                (c.loop-part.count + c.loop-part.more) c.loop-part.greatest i p before.is_written
                i_lt c.part-item.is (sym (ap (λ x. string_of nodes x.body) e_is
                ∙ ap (filled_part nodes es) (sym p_is)) ∙ nil_if_no_length (string_of nodes e.body)
                (omega (
                  arith,
                  (subst (IsEntry nodes) (sym e_is) (All-get_or (IsEntry nodes) es j
                      no_entry j_lt c.requires.are_entries)).length_is,
                  w.if-premise-gt0.false,
                )));
            more_le_limit = before.more_le_limit;
            includes_masks =
                includes_variable es parts i c.loop-part.mask p i_lt c.part-item.is j p_is e e_is
                before.includes_masks;
          })
    ]

pub returns-then-more-gt-FORMULA_LIMIT-clause-is_too_long :
    goal.returns-then-more-gt-FORMULA_LIMIT-clause-is_too_long
returns-then-more-gt-FORMULA_LIMIT-clause-is_too_long g c =
    let nodes = c.args._nodes.now in
    let es = c.args.premises.now in
    let parts = c.args.parts.now in
    let i = c.loop-part.part-index in
    let p = c.part-item.result in
    let i_lt : i < length parts = c.loop-part-test.true in
    let j = c.in-Variable.floating_index in
    let p_is : p ≡ Variable j = sym c.to_part.ensures.part_is ∙ c.in-Variable.is in
    let j_lt : j < length es =
    subst (IsVariableBelow (length es)) (sym c.part-item.is ∙ p_is)
    (c.requires.variables_in_range i p i_lt) in
    let e = c.index-premises-floating_index.result in
    let e_is : e ≡ get_or es j no_entry =
    c.index-premises-floating_index.is ∙ get_or_default es j e no_entry j_lt in
    too_long_if_front_is nodes es parts (i + 1) _ (premise_written nodes es parts c.loop-part.list
    c.put_body-then-premise-gt0.new.list c.loop-part.count (c.loop-part.count + c.loop-part.more)
    c.loop-part.greatest i p c.loop-part.invariant.is_written i_lt c.part-item.is j c.loop-part.more
    c.greater-greatest.result e p_is e_is (subst (IsEntry nodes) (sym e_is) (All-get_or
    (IsEntry nodes) es j no_entry j_lt c.requires.are_entries)) c.if-premise-gt0.true refl
    c.put_body-then-premise-gt0.ensures.is_written c.greater-greatest.ensures.first_le
    c.greater-greatest.ensures.second_le c.greater-greatest.ensures.is_one_of_both).length_is
    (omega (arith, c.if-more-gt-FORMULA_LIMIT.true))
