-- `command` adds one rule after another by `app_with_added_rule`, and `added_rules_are_command`
-- says that the result is the command of the definitions (`LineLaw.antt`). `default_is_read` says
-- that an argument with a default has an entry that its parser accepted (`EntryLaw.antt`).
-- `parsed_matches_are_found` depends on it, and gives `Finds` for `find_matches`;
-- `refusal_is_line_refusal` says why words were refused. `line` takes each field from its entry and
-- ends with `line_is_read`: the line is what clap states for the words, and the plan is lawful.
mod EntryLaw
mod NamesLaw
mod LineLaw
