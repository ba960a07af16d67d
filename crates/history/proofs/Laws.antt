-- The laws of every history that offers give.
use Prim.Native.Nat.{ℕ, zero, suc}
use mathlib.Core.Path.{◌≡◌, refl}
use mathlib.Core.List.{List, [], ◌∷◌}
use native.Mathlib.Omega.{arith}
use Rattle.entries.specs.declared.arrivals.Arrival.{Arrival}
use Rattle.entries.specs.declared.raw.Raw.{Raw}
use Rattle.history.specs.History.{History, judge_by, joined, offer, offers}
use Rattle.history.specs.Laws.{Valid, empty, joins, Lawful, Bounded, Laws}
use Rattle.history.proofs.Accept.{recorded, fits}
use Rattle.history.proofs.Names.{contributed, in_period, once}
use Rattle.history.proofs.Conserve.{conserve, divide, refunds_all, reductions_all}
use Rattle.history.proofs.Open.{one_open}
use Rattle.history.proofs.Bound.{bounded, added_small, paid_small}
use Rattle.history.proofs.Years.{small_year}

lawful : (h : History) → Valid h → Lawful h
lawful h v =
    record {
      conserved = λ a. conserve v a;
      divided = λ e m c. rw c at (divide v e m).0;
      guaranteed = λ e m c. rw c at (divide v e m).0;
      refunds = refunds_all v;
      counted = λ e m c. (divide v e m).1;
      reductions = reductions_all v;
      one_open = one_open v;
      contributed = contributed v;
      in_period = λ c e m n k p. omega (arith, in_period v c e m n k p);
      once = once v;
    }

within : (h : History) → Valid h → Bounded h
within h v =
    record {
      room = fits v;
      arrears = λ a. omega (arith, fits v, (bounded v a).arrears);
      credit = λ a. omega (arith, fits v, (bounded v a).credit);
      deposit = λ a. omega (arith, (bounded v a).deposit);
      added = λ e. omega (arith, fits v, added_small h e);
      paid = λ c. omega (arith, fits v, paid_small v c);
      years = λ year. let s = small_year v year in omega (arith, fits v, s.bills, s.payments, s.paid_out, s.entries);
    }

-- what holds of a history when an entry is offered
pub offered : (P : History → Type 0) (w : Arrival) (h : History) (r : Raw) → (judge_by w h r ≡ 0 → P (r ∷ h)) → P h → P (offer w h r)
unfolding offer
offered P w h r joined-holds holds = go (judge_by w h r) refl
  where
    go : (n : ℕ) → judge_by w h r ≡ n → P (joined n r h)
    go zero j = joined-holds j
    go (suc n) j = holds

-- what offers give, from a valid history on
pub valid_offers : (w : Arrival) {h : History} → Valid h → (rs : List Raw) → Valid (offers w h rs)
valid_offers w {h} v [] = v
valid_offers w {h} v (r ∷ rs) = valid_offers w {h = offer w h r} (offered Valid w h r (λ j. joins v (recorded w h r j)) v) rs

pub laws : Laws
laws = record { valid = λ w rs. valid_offers w empty rs; lawful = lawful; bounded = within }
