use Rattle.std.proofs.Common.{◌≡◌, ◌∙◌, List, [], ◌∷◌, map, refl, ap, subst, codes, true}
use Rattle.std.proofs.lemmas.Result.{IfOk-weaker}
use Rattle.clap.specs.Built.{AddsArg, AddsInTurn}
use Rattle.clap.specs.Walk.{rule_of}
use Rattle.clap.specs.Simple.{App, app_of, app_of_fields, new_app}
use Rattle.clap.specs.declared.builder.arg.Arg.{Arg}
use Rattle.mm_line.specs.Lines.{command_of, form_rule, report_rule, app_with_name}
use Rattle.mm_line.proofs.LineLaw.{app_with_added_rules, added_rules_are_command, the_rules}
use Rattle.mm_line.proofs.options.command.Goals as goal

pub returns : goal.returns
unfolding command_of
returns c =
    let app_before_version : app_of c.after_help.result ≡ new_app (codes "mmdepend") =
    ap app_of_fields c.after_help.ensures ∙ ap app_of_fields c.about.ensures ∙ c.new.ensures.app in
    let app_with_version : app_of c.version.result ≡ app_with_name =
    ap app_of_fields c.version.ensures
    ∙ ap (λ (a : App). record a { top = record a.top { has_version = true } }) app_before_version in
    λ words texts_are.
    let form_names_are = c.form_option.ensures in
    let texts = c.args.texts in
    let args : List Arg =
    c.number_option.result ∷ c.number_option-2.result ∷ c.only_option.result
    ∷ c.report_option.result ∷ c.form_option.result
    ∷ c.essential_flag.result ∷ c.open_flag.result ∷ c.against_option.result
    ∷ c.and_report_flag.result ∷ c.file_argument.result ∷ [] in
    let rules_are : map rule_of args ≡ the_rules texts form_names_are.0 =
    cc (
      c.number_option.ensures,
      c.number_option-2.ensures,
      c.only_option.ensures,
      c.report_option.ensures,
      form_names_are.2,
      c.essential_flag.ensures,
      c.open_flag.ensures,
      c.against_option.ensures,
      c.and_report_flag.ensures,
      c.file_argument.ensures,
    ) in
    IfOk-weaker c.args-2.result _ _
    (λ m are_added. added_rules_are_command words m (report_rule texts) (form_rule form_names_are.0)
    (texts, texts_are, refl) (form_names_are.0, form_names_are.1, refl)
    (app_with_added_rules args (the_rules texts form_names_are.0) c.version.result m
    app_with_name
    (subst (λ (l : List Arg). AddsInTurn AddsArg c.version.result l m)
    c.in_ok-arguments.ensures.items are_added)
    app_with_version rules_are refl)) c.args-2.ensures
