-- Progress goes on by one token.
use Rattle.std.proofs.lemmas.Grind.{common_steps}
use Rattle.std.proofs.Common.{arith, ◌≡◌, ℕ, ◌+◌, ◌<◌, List, [], ◌∷◌, ◌++◌, length, add-one}
use Rattle.std.proofs.Common.{drop-cons, append_assoc}
use Rattle.std.proofs.lemmas.Bool.Decides.{nat_tests}
use Rattle.mm_spec.specs.Text.{Token}
use Rattle.mm_spec.specs.Statement.{Statement}
use Rattle.mm_spec.specs.Laws.Table as table
use Rattle.mm_spec.specs.Laws.Table.{Progress, class}
use Rattle.mm_spec.specs.declared.Word.{Word}
use Rattle.mm_outline.specs.Parts.{token_at}
use Rattle.mm_outline.specs.NextStatement.{Leads, tokens_from}

pub nothing_read_leads_to_itself : (r : Progress) (us : List Token) → Leads r us [] r us
nothing_read_leads_to_itself r us = grind (arith, common_steps)

pub leads_one_after_other : {r q p : Progress} {us vs ws : List Token}
    {row later_row : List Statement}
    → Leads r us row q vs → Leads q vs later_row p ws → Leads r us (row ++ later_row) p ws
leads_one_after_other h1 h2 = grind (arith, common_steps, append_assoc)

pub tokens_from_begin_with : (text : List ℕ) (ws : List Word) (i : ℕ) → i < length ws
    → tokens_from text ws i ≡ token_at text ws i ∷ tokens_from text ws (i + 1)
tokens_from_begin_with text ws i i_lt_length = grind (arith, common_steps, add-one, drop-cons)

pub continued_leads_on : {r : Progress} {t : Token} {us : List Token} {q : Progress}
    → table.continued q ≡ table.transition r (class t.word) t → Leads r (t ∷ us) [] q us
continued_leads_on {r = r} {t = t} {us = us} is_continued = grind (arith, nat_tests)
