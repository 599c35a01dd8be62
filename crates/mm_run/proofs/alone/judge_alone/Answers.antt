use Rattle.mm_run.proofs.alone.judge_alone.Goals as goal

pub returns : goal.returns
returns g c =
    let is_read_from = c.in_ok-database.ensures in
    c.judged_text.ensures c.args.text.now c.args.essential c.args.with_open (record {
      text_is = is_read_from.text_is;
      is_counted = record {
        flag_is = is_read_from.flag_is;
        statements_are = is_read_from.are_counted;
      };
      is_read = is_read_from.is_read;
    }) c.in_ok-judged.ensures
