use Rattle.mm_run.proofs.output.judge.Goals as goal

pub returns : goal.returns
returns g c =
    let plan = c.args.plan.now in
    c.judged_text.ensures c.args.text.now plan.essential plan.with_open c.in_ok-database.ensures
    c.in_ok-judged.ensures
