-- No call adds a bill of zero days served: one that the history has after calls was there before them.
use Prim.Native.Nat.{ℕ, zero, suc}
use mathlib.Core.Path.{◌≡◌, refl, sym, ap, subst, ◌∙◌}
use mathlib.Core.Bool.{true, cond, true≢false}
use mathlib.Core.List.{List, [], ◌∷◌}
use lib.Dec.{eqb}
use Rattle.entries.specs.Kinds.{kind_of, same_of}
use Rattle.entries.specs.declared.arrivals.Arrival.{Arrival}
use Rattle.entries.specs.declared.arrivals.Arrival.TheVariants.{Posted, PostedInRun}
use Rattle.entries.specs.declared.raw.Raw.{Raw}
use Rattle.entries.specs.declared.kinds.Kind.TheVariants as kind
use Rattle.image_post.specs.Postings.{read_entry}
use Rattle.image_carry.specs.Carries.{read_entries}
use Rattle.history.specs.History.{History, judge_by, offer, offers, no_day_so, too_short}
use Rattle.history.specs.Laws.{In, newest, older}
use Rattle.history.specs.Runs.{Noted, Run, State, is_open, arrival_in, opening_refusal, opened, step_refusal, charged, stepped}
use Rattle.history.specs.Calls.{Call, posting, carry_over, opening, step, close, query, call_in}
use Rattle.history.specs.Hosts as hosts
use Rattle.history.proofs.Tests.{tested}
use Rattle.history.proofs.Accept.{served}
use Rattle.history.proofs.Laws.{offered}

-- a posted entry is stopped, during a run too
stops : (run : Run) → no_day_so (arrival_in run) kind.Bill 0 ≡ true
stops run = tested (λ t. no_day_so (cond t PostedInRun Posted) kind.Bill 0 ≡ true) (is_open run) (λ p. refl) (λ p. refl)

module _ (e : Raw) (bill : kind_of e.kind ≡ kind.Bill) (none : e.b ≡ 0) where
  offer_adds : (w : Arrival) → no_day_so w kind.Bill 0 ≡ true → (h : History) (r : Raw) → In e (offer w h r) → In e h
  offer_adds w stopped h r = offered (λ g. In e g → In e h) w h r joins (λ i. i)
    where
      joins : judge_by w h r ≡ 0 → In e (r ∷ h) → In e h
      joins j (newest q) = absurd (true≢false (sym stopped ∙ rw (bill, none) at (served w h e (subst (λ x. judge_by w h x ≡ 0) q j))))
      joins j (older i) = i

  offers_add : (w : Arrival) → no_day_so w kind.Bill 0 ≡ true → (rs : List Raw) (h : History) → In e (offers w h rs) → In e h
  offers_add w stopped [] h i = i
  offers_add w stopped (r ∷ rs) h i = offer_adds w stopped h r (offers_add w stopped rs (offer w h r) i)

  -- a step's charge is no bill
  charge_adds : (s : State) (left : List Noted) → In e (charged s.entries s.run left).entries → In e s.entries
  unfolding kind_of
  charge_adds s [] i = i
  charge_adds s (n ∷ ns) (newest q) = absurd (true≢false (sym (ap (λ (x : Raw). same_of (kind_of x.kind) kind.Bill) q ∙ rw bill refl)))
  charge_adds s (n ∷ ns) (older i) = i

  pub call_adds : (s : State) (c : Call) → In e (call_in s c).0.entries → In e s.entries
  unfolding call_in
  call_adds s (posting r) i = offer_adds (arrival_in s.run) (stops s.run) s.entries r i
  call_adds s (carry_over rs results) i =
      tested (λ t. In e (cond t s.entries (offers (arrival_in s.run) s.entries rs)) → In e s.entries) (too_short rs results) (λ p i. i)
      (λ p. offers_add (arrival_in s.run) (stops s.run) rs s.entries) i
  call_adds s (opening node day rate) i = go (opening_refusal s.run node day rate) i
    where
      go : (n : ℕ) → In e (opened n s node day rate).entries → In e s.entries
      go zero i = i
      go (suc n) i = i
  call_adds s step i = go (step_refusal s.entries s.run) i
    where
      go : (n : ℕ) → In e (stepped n s).entries → In e s.entries
      go zero i = charge_adds s s.run.left i
      go (suc n) i = i
  call_adds s close i = i
  call_adds s (query q) i = i

  pub host_adds : (h : History) (c : hosts.HostCall) → In e (hosts.host_in h c).0 → In e h
  unfolding hosts.host_in
  host_adds h (hosts.posting entry output) i =
      tested (λ t. In e (cond t (offer Posted h (read_entry entry)) h) → In e h) (eqb (hosts.post_refusal_in h entry output) 0) (λ p. offer_adds Posted refl h (read_entry entry)) (λ p i. i) i
  host_adds h (hosts.carry_over entries results output) i =
      tested (λ t. In e (cond t (offers Posted h (read_entries entries)) h) → In e h) (eqb (hosts.carry_refusal_in h entries results output) 0) (λ p. offers_add Posted refl (read_entries entries) h)
      (λ p i. i) i
  host_adds h (hosts.query q) i = i
