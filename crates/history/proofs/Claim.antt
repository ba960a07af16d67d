-- Demand 3, from the law of one call over lists of calls.
use mathlib.Core.Path.{◌≡◌, refl, ap}
use mathlib.Core.Bool.{Bool, true, false}
use mathlib.Core.List.{List, []}
use Rattle.entries.specs.Kinds.{kind_of}
use Rattle.entries.specs.Data.{entry_of}
use Rattle.entries.specs.declared.raw.Raw.{Raw}
use Rattle.entries.specs.declared.kinds.Kind.TheVariants as kind
use Rattle.entries.specs.declared.data.Particulars.{Particulars}
use Rattle.rules.specs.declared.accounts.Account.{Account}
use Rattle.book.specs.Fresh.{fresh_book}
use Rattle.std.specs.Prelude.{is_some}
use Rattle.book.specs.declared.Book.{Book}
use Rattle.saves.specs.Saves.{save_of, saved_in}
use Rattle.queries.specs.Chain as chains
use Rattle.carry.specs.Carry.{carry_refusal_of}
use Rattle.history.specs.History.{History, answers_along, held_of, held_amount, fate}
use Rattle.history.specs.Laws.{In}
use Rattle.history.specs.Runs.{State, arrival_in}
use Rattle.history.specs.Agreement.{kept_entry, over, KeptState}
use Rattle.history.specs.Queries.{Query, statement, contribution, page, year, save, stated, given, paged, totalled, saved, save_in, query_in}
use Rattle.history.specs.Calls.{Call, posting, carry_over, opening, step, close, query, posted, ran, queried, call_in, state_from, state_after, history_after}
use Rattle.history.specs.Claim.{query_of, call_of, book_after, guarantee_held_of, Claim, Demand3}
use Rattle.history.proofs.Laws.{laws}
use Rattle.history.proofs.Served.{call_adds}
use Rattle.history.proofs.Tables.{kept_read}
use Rattle.history.proofs.Agreement.{agreement}
use Rattle.history.proofs.Carry.{posted_kept, posted_same, posted_run, results_same, carried_kept, carried_run}
use Rattle.history.proofs.Runs.{open_same, arrival_same, kept_with, opening_same, step_same, close_same}
use Rattle.history.proofs.Calls.{lists_same, along}
use Rattle.history.proofs.Images.{save_same, saved_same}
use Rattle.saves.proofs.Saves.{save_in_run}
use Rattle.history.proofs.Queries.{chain_reads, reads_total, held_read, statement_same, contribution_same, year_same}
use Rattle.history.proofs.Pages.{page_same}

-- a query on a book that keeps a state answers as the history
query_same : {b : Book} {s : State} → KeptState b s → (q : Query) → query_of b q ≡ query_in s q
unfolding query_of query_in
query_same w (statement account allowance) = ap stated (statement_same w.history account allowance)
query_same w (contribution account node serial) = ap given (contribution_same w.history account node serial)
query_same w (page account buffer) = ap paged (page_same w.history account buffer)
query_same w (year y) = ap totalled (year_same w.history y)
query_same {b} {s} w (save buffer) = rw (← open_same w.run) (go (is_some b.run) refl)
  where
    go : (t : Bool) → is_some b.run ≡ t → saved (save_of b buffer).refusal (save_of b buffer).bytes (saved_in b buffer) ≡ save_in t s.entries buffer
    go true e = rw ((save_in_run b buffer e).0, (save_in_run b buffer e).1) refl
    go false e = rw (save_same w.history e buffer, saved_same w.history e buffer) refl

-- so does every call, and the next book keeps the next state
call_same : {b : Book} {s : State} → KeptState b s → (c : Call) → KeptState (call_of b c).0 (call_in s c).0 × ((call_of b c).1 ≡ (call_in s c).1)
unfolding call_of call_in carry_refusal_of
call_same {b} {s} w (posting r) =
    let way = arrival_in s.run in
    let so = arrival_same w.run in
    (kept_with b (posted_kept way w.history so r) (posted_run way w.history so r) w.run, ap posted (posted_same way w.history so r))
call_same {b} {s} w (carry_over rs results) =
    let way = arrival_in s.run in
    let so = arrival_same w.run in
    (kept_with b (carried_kept way w.history so rs results) (carried_run b rs results) w.run, rw (results_same way w.history so rs results) refl)
call_same w (opening node day rate) = let o = opening_same w node day rate in (o.0, ap ran o.1)
call_same w step = let o = step_same w in (o.0, ap posted o.1)
call_same w close = let o = close_same w in (o.0, ap ran o.1)
call_same w (query q) = (w, ap queried (query_same w q))

pub calls_same : {b : Book} {s : State} → KeptState b s → (cs : List Call) →
    KeptState (book_after b cs) (state_after s cs) × (answers_along call_of b cs ≡ answers_along call_in s cs)
calls_same {b} {s} w cs = lists_same call_of call_in (λ b s cs. KeptState b s) (λ b s c cs v. call_same v c) b s cs w

pub fresh_kept : KeptState fresh_book (state_from [])
unfolding fresh_book
fresh_kept = record { history = agreement.fresh; run = over refl refl }

guarantee_read : (all h : History) (e : Raw) → guarantee_held_of (kept_entry all h e) ≡ held_of kind.Guarantee (kind_of e.kind) e (fate all e)
unfolding guarantee_held_of entry_of
guarantee_read all h e = ap (λ (n : Particulars). n.guarantee_held.0) (kept_read (kind_of e.kind) e (fate all e) _ _).0

pub claim : {b : Book} {s : State} → KeptState b s → (cs : List Call) → Claim b s cs
claim {b} {s} v cs =
    let (k, answered) = calls_same v cs in
    let w = k.history in
    let h = history_after s cs in
    record {
      answered = answered;
      arrears = λ a l m. ap (λ (x : Account). x.arrears.0) (w.agrees.account a l m);
      credit = λ a l m. ap (λ (x : Account). x.credit.0) (w.agrees.account a l m);
      deposit = λ a l m. ap (λ (x : Account). x.deposit.0) (w.agrees.account a l m);
      held = λ a l m. rw (agreement.chain (book_after b cs) h w a l m) (reads_total chains.held_of held_amount h (held_read h) (chain_reads h h a));
      guarantee_held = λ a l m. rw (agreement.chain (book_after b cs) h w a l m) (reads_total guarantee_held_of (held_of kind.Guarantee) h (guarantee_read h) (chain_reads h h a));
      years = year_same w;
      kept = w;
      run = k.run;
      lawful = laws.lawful h w.valid;
      no_day = λ e m k z. along call_in (λ (s : State). In e s.entries) (call_adds e k z) s cs m;
      bounded = laws.bounded h w.valid;
    }

pub demand3 : Demand3
demand3 cs = claim fresh_kept cs
