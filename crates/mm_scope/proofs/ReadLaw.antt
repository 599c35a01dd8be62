-- Statements read one by one are those that the definition reads.
use Rattle.std.proofs.lemmas.Grind.{common_steps}
use Rattle.std.proofs.lemmas.Bool.Decides.{nat_tests}
use Rattle.std.proofs.Common.{◌≡◌, ◌≢◌, ◌≤◌, ◌<◌, ◌+◌, ℕ, true, false, List, [], ◌∷◌, ◌++◌}
use Rattle.std.proofs.Common.{length, Option, None, Some, refl, sym, ap, ap₂, ◌∙◌, subst, arith}
use Rattle.std.proofs.Common.{length-append, take, count_by, ◌^◌, is_some, true≢false}
use Rattle.std.proofs.lemmas.Bool.{cases_lt}
use Rattle.std.proofs.Math.Seq.{take-append-add}
use Rattle.mm_spec.specs.Statement.{Statement, is_opening, is_closing, opening}
use Rattle.mm_spec.specs.Scope.{depth, names_before}
use Rattle.mm_spec.specs.Lawful.{scope_fault, scope_faults, least}
use Rattle.mm_spec.specs.Output.{IsRead, StopsReading}
use Rattle.mm_spec.specs.Laws.Table.{start, statements_from, statements_of, shape_fault_from}
use Rattle.mm_spec.specs.Laws.Table.{progress_from}
use Rattle.mm_spec.specs.declared.Word.{Word}
use Rattle.mm_spec.specs.declared.Fault.{Fault}
use Rattle.mm_spec.proofs.LocalLaw.{scope_fault_front, scope_fault_of_next}
use Rattle.mm_spec.proofs.LongestLaw.{read_statements_are_longest}
use Rattle.mm_spec.proofs.StopsLaw.{text_fault, text_fault_is, no_text_fault, first_fault_of}
use Rattle.mm_spec.proofs.StopsLaw.{fault_at_end}
use Rattle.mm_outline.specs.Parts.{as_tokens, progress, statement_between, depth_after}
use Rattle.mm_outline.specs.Blocks.{BlockLists, IsBlocks, never}
use Rattle.mm_outline.proofs.BlocksLaw.{depth_at_end, depth_after_other, depth_after_opening}
use Rattle.mm_outline.proofs.BlocksLaw.{depth_after_closing}
use Rattle.mm_outline.specs.declared.parts.Kind.{Kind}
use Rattle.mm_outline.specs.NextStatement.{Leads, tokens_from}
use Rattle.mm_outline.specs.Statements.{lexed, end_fault_of, statements}
use Rattle.mm_outline.specs.declared.parts.Outline.{Outline}
use Rattle.std.proofs.lemmas.List.{length-map}
use Rattle.mm_outline.specs.declared.parts.Part.{Part}
use Rattle.mm_outline.specs.declared.parts.Part.TheVariants.{Start}
use Rattle.mm_outline.proofs.ProgressLaw.{leads_one_after_other}
use Rattle.mm_spec.proofs.ShapeLaw.{count_of_list_and_last}

-- the tokens before `token_index` are those of lawful statements, after which so many blocks are
-- open
pub record IsReadTo (text : List ℕ) (ws : List Word) (db : List Statement)
    (open_blocks token_index : ℕ) : Type 0 where
  pub leads : Leads (start 0) (as_tokens text ws) db (start open_blocks)
      (tokens_from text ws token_index)
  pub index_le_length : token_index ≤ length ws
  pub length_db_le_index : length db ≤ token_index
  pub open_blocks_le_index : open_blocks ≤ token_index
  pub open_blocks_is_depth : open_blocks ≡ depth db (length db)
  pub lawful : (k : ℕ) → k < length db → scope_fault db k ≡ None

module _ (len : ℕ) (text : List ℕ) (ws : List Word) (lexical : Option Fault) where
  -- the text stops
  stops_with : (ss db : List Statement) (f : Option Fault)
      → text_fault len (lexed text ws lexical) ≡ f
      → StopsReading len (lexed text ws lexical) ss db [] f
  stops_with ss db None text_fault_is_f = no_text_fault len (lexed text ws lexical) text_fault_is_f
  stops_with ss db (Some f) text_fault_is_f =
      text_fault_is len (lexed text ws lexical) f text_fault_is_f

  fault_at_end_is_end_fault_of : (open_blocks : ℕ) (part : Part) (i : ℕ) (o : Option Fault)
      → first_fault_of o (fault_at_end len (progress text ws open_blocks part i))
      ≡ end_fault_of o len part open_blocks
  fault_at_end_is_end_fault_of open_blocks part i (Some f) = refl
  fault_at_end_is_end_fault_of open_blocks Start i None = grind arith
  fault_at_end_is_end_fault_of open_blocks _ i None = refl

module _ {text : List ℕ} {ws : List Word} {len : ℕ} {lexical : Option Fault} {db : List Statement}
    {open_blocks token_index : ℕ} (is_read_to : IsReadTo text ws db open_blocks token_index) where
  -- an unlawful statement
  pub read_unlawful : {s : Statement} {d : ℕ} {us : List _}
      → Leads (start open_blocks) (tokens_from text ws token_index) (s ∷ []) (start d) us
      → (f : Option Fault) → f ≢ None
      → f ≡ least (scope_faults (names_before db (length db)) open_blocks s)
      → IsRead len (lexed text ws lexical) db f
  read_unlawful {s = s} {d = d} {us = us} leads_to_s f f_ne_none f_is_least =
      let rest = statements_from (start d) us in
      let statements_are_db_s_rest = is_read_to.leads.statements
      ∙ ap (λ y. db ++ y) leads_to_s.statements in
      record {
        statements = statements_of (as_tokens text ws);
        are_statements = read_statements_are_longest (as_tokens text ws);
        rest = s ∷ rest;
        splits = statements_are_db_s_rest;
        lawful = λ k k_lt_length. rw (
          statements_are_db_s_rest,
          scope_fault_front db (s ∷ rest) k k_lt_length,
        ) (is_read_to.lawful k k_lt_length);
        stops = (
          f_ne_none,
          rw (
            statements_are_db_s_rest,
            scope_fault_of_next db s rest,
            sym is_read_to.open_blocks_is_depth,
          ) (sym f_is_least),
        );
      }

  -- if no statement follows, the statements so far are what is read, with the fault of the text
  is_read_at_end : statements_from (start open_blocks) (tokens_from text ws token_index) ≡ []
      → (f : Option Fault)
      → text_fault len (lexed text ws lexical) ≡ f → IsRead len (lexed text ws lexical) db f
  is_read_at_end no_statement_follows f text_fault_is_f =
      let statements_are_db = is_read_to.leads.statements
      ∙ ap (λ y. db ++ y) no_statement_follows in
      record {
        statements = statements_of (as_tokens text ws);
        are_statements = read_statements_are_longest (as_tokens text ws);
        rest = [];
        splits = statements_are_db;
        lawful = λ k k_lt_length. rw (statements_are_db, scope_fault_front db [] k k_lt_length)
            (is_read_to.lawful k k_lt_length);
        stops =
            stops_with len text ws lexical (statements_of (as_tokens text ws)) db f text_fault_is_f;
      }

  -- a malformed statement
  pub read_stopped : (f : Fault)
      → statements_from (start open_blocks) (tokens_from text ws token_index) ≡ []
      → shape_fault_from (start open_blocks) (tokens_from text ws token_index) ≡ Some f
      → IsRead len (lexed text ws lexical) db (Some f)
  read_stopped f no_statement_follows shape_fault_is_f =
      is_read_at_end no_statement_follows (Some f)
      (rw (is_read_to.leads.fault_stays, shape_fault_is_f) refl)

  -- the end of the tokens
  pub read_ended : (part : Part)
      → statements_from (start open_blocks) (tokens_from text ws token_index) ≡ []
      → shape_fault_from (start open_blocks) (tokens_from text ws token_index) ≡ None
      → progress_from (start open_blocks) (tokens_from text ws token_index)
      ≡ progress text ws open_blocks part (length ws)
      → (f : Option Fault) → f ≡ end_fault_of lexical len part open_blocks
      → IsRead len (lexed text ws lexical) db f
  read_ended part no_statement_follows no_shape_fault progress_is_part f f_is_end_fault =
      is_read_at_end no_statement_follows f
      (ap₂ (λ o q. first_fault_of o (first_fault_of lexical (fault_at_end len q)))
      (is_read_to.leads.fault_stays ∙ no_shape_fault)
      (is_read_to.leads.progress_stays ∙ progress_is_part)
      ∙ fault_at_end_is_end_fault_of len text ws lexical open_blocks part (length ws) lexical ∙ sym
      f_is_end_fault)

-- before the first statement
pub nothing_is_read : (text : List ℕ) (ws : List Word) → IsReadTo text ws [] 0 0
nothing_is_read text ws = record {
  leads = record {
    statements = refl;
    fault_stays = refl;
    progress_stays = refl;
  };
  index_le_length = omega arith;
  length_db_le_index = omega arith;
  open_blocks_le_index = omega arith;
  open_blocks_is_depth = refl;
  lawful = λ k k_lt_length. absurd (omega (arith, k_lt_length));
}

-- a statement that closes a block stands in one
pub closing_is_inside_block : {text : List ℕ} {ws : List Word} {db : List Statement}
    {open_blocks token_index : ℕ}
    → IsReadTo text ws db open_blocks token_index → {s : Statement} {d : ℕ} {us : List _}
    → Leads (start open_blocks) (tokens_from text ws token_index) (s ∷ []) (start d) us
    → is_closing s ≡ true
    → 0 < depth db (length db)
closing_is_inside_block {text = text} {ws = ws} {db = db} is_read_to {s = s} {d = d} {us = us}
    leads_to_s s_is_closing =
    let closings_le_openings : count_by is_closing (db ++ s ∷ [])
    ≤ count_by is_opening (db ++ s ∷ []) =
    subst (λ y. count_by is_closing y ≤ count_by is_opening y)
    (ap (take (length db + 1)) (cc)
    ∙ take-append-add db (s ∷ statements_from (start d) us) 1)
    ((read_statements_are_longest (as_tokens text ws)).are_statements.nested (length db + 1)) in
    grind (arith, common_steps, count_of_list_and_last, depth_at_end)
  where
    not_both : (s : Statement) → is_closing s ≡ true → is_opening s ≡ false
    not_both (opening k) s_is_closing = absurd (true≢false (sym s_is_closing))
    not_both _ s_is_closing = refl

-- the depth after a statement is at most the number of tokens up to its end
pub depth_after_le : (k : Kind) (d token_index end : ℕ) → d ≤ token_index → token_index ≤ end
    → depth_after k d ≤ end + 1
depth_after_le k d token_index end h1 h2 = grind (arith, common_steps)

-- the depth that the code counts after a statement is the depth after it
depth_after_is_depth : (text : List ℕ) (ws : List Word) (db : List Statement) {b : BlockLists}
    → IsBlocks db b
    → length db < never → (k : Kind) (w m e : ℕ)
    → depth_after k (depth db (length db))
    ≡ depth (db ++ statement_between text ws k w m e ∷ []) (length db + 1)
depth_after_is_depth text ws db h1 h2 k w m e =
    grind (arith, nat_tests, depth_after_opening, depth_after_closing, depth_after_other)

-- one lawful statement more is read
pub is_read_to_with_statement : {text : List ℕ} {ws : List Word} {db : List Statement}
    {open_blocks token_index : ℕ}
    → IsReadTo text ws db open_blocks token_index → length ws < 2 ^ 31 → {b : BlockLists}
    → IsBlocks db b
    → (k : Kind) (w m e : ℕ) → token_index ≤ e → e < length ws
    → Leads (start open_blocks) (tokens_from text ws token_index)
    (statement_between text ws k w m e ∷ [])
    (start (depth_after k open_blocks)) (tokens_from text ws (e + 1))
    → None ≡ least (scope_faults (names_before db (length db)) open_blocks
    (statement_between text ws k w m e))
    → IsReadTo text ws (db ++ statement_between text ws k w m e ∷ []) (depth_after k open_blocks)
    (e + 1)
is_read_to_with_statement {text = text} {ws = ws} {db = db} {open_blocks = open_blocks}
    {token_index = token_index} is_read_to length_lt_2_31 are_blocks k w m e index_le_e e_lt_length
    leads_to_s no_fault =
    grind (
      arith,
      nat_tests,
      length-append,
      leads_one_after_other,
      depth_after_le,
      depth_after_is_depth,
      cases_lt,
      scope_fault_front,
      scope_fault_of_next,
    )

-- what is some fault isn't `None`, and what is no fault is
pub not_none_if_some : {f : Option Fault} → is_some f ≡ true → f ≢ None
not_none_if_some h1 = grind (arith, common_steps, true≢false)

pub none_if_not_some : {f : Option Fault} → is_some f ≡ false → None ≡ f
none_if_not_some h1 = grind (arith, common_steps, true≢false)

-- as few outlines as tokens are read
pub few_outlines : {text : List ℕ} {ws : List Word} (os : List Outline)
    {open_blocks token_index : ℕ}
    → IsReadTo text ws (statements text ws os) open_blocks token_index → length ws < 2 ^ 31
    → length os < 2 ^ 31
few_outlines {text = text} {ws = ws} os is_read_to length_lt_2_31 =
    grind (arith, common_steps, length-map)
