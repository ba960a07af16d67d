-- The stores of an accepted entry: the rows and the accounts of the next book.
use mathlib.Core.Path.{◌≡◌, refl, sym, ◌∙◌}
use Prim.Native.Nat.{ℕ, ◌-◌, ◌≤◌, ◌<◌}
use native.Mathlib.Omega.{arith}
use native.Mathlib.Nat.{zero-add}
use mathlib.Core.Bool.{false}
use mathlib.Core.List.{List, ◌∷◌}
use lib.ListN.{length, get_or, set}
use lib.Seq.{get_or-set_same, get_or-set_other}
use borrow.Author.Tests.{ne_eqb, le-ltb}
use Rattle.entries.specs.Data.{no_entry, entry_of, with_of}
use Rattle.entries.specs.declared.raw.Raw.{Raw}
use Rattle.entries.specs.declared.kinds.Kind.TheVariants as kind
use Rattle.entries.specs.declared.data.Entry.{Entry}
use Rattle.book.specs.Chain.{slot_of}
use Rattle.history.specs.History.{History, accounts, names, added_up}
use Rattle.history.specs.Agreement.{data_in, kept_entry, Placed, start, more}
use Rattle.history.proofs.Names.{Misses, none, miss, Hits, first, later, fate_miss, gives_miss}

-- an account's place
pub slot_at : (a : ℕ) → 1 ≤ a → a ≤ accounts → slot_of a ≡ a - 1
unfolding slot_of
slot_at a l m = simp (ne_eqb a 0 (λ q. omega arith), le-ltb accounts a (omega arith))

kept_miss : (c : Raw) (h g : History) (x : Raw) → names c x ≡ false → kept_entry (c ∷ h) g x ≡ kept_entry h g x
unfolding added_up
kept_miss c h g x e = rw (fate_miss c h x e, gives_miss kind.AddedCustomer refl c x e) (simp zero-add)

-- a store behind the rows
pub rows_past : {all : History} {es : List Entry} {h : History} → Placed all es h → (j : ℕ) (x : Entry) → length h ≤ j → Placed all (set es j x) h
rows_past start j x l = start
rows_past {es = es} (more {e = r} {h} e rs) j x l =
    let ne : length h ≡ j → ⊥ = λ q. omega arith in
    more (get_or-set_other es j (length h) x no_entry ne ∙ e) (rows_past rs j x (omega arith))

-- a further entry that names none of them, and one that names one
pub rows_miss : {c : Raw} {h : History} {es : List Entry} {g : History} → Misses c g → Placed h es g → Placed (c ∷ h) es g
rows_miss none start = start
rows_miss {c} {h} (miss {x} {g} n m) (more e rs) = more (e ∙ sym (kept_miss c h g x n)) (rows_miss m rs)

hits_inside : {c : Raw} {i : ℕ} {e : Raw} {g : History} → Hits c i e g → i < length g
hits_inside (first n s l m) = omega arith
hits_inside (later n t) = omega (arith, hits_inside t)

module _ (c : Raw) (h : History) (es : List Entry) (i : ℕ) (e : Raw) (l : i < length es) where
  pub rows_hit : {g : History} → Hits c i e g → Placed h es g → Placed (c ∷ h) (set es i (with_of (get_or es i no_entry) (data_in (c ∷ h) e))) g
  unfolding with_of entry_of
  rows_hit (first {x} {g} n s p m) (more q rs) =
      more {e = x} {h = g} (rw (p, get_or-set_same es i (with_of (get_or es i no_entry) (data_in (c ∷ h) e)) no_entry l, rw p at q, s) refl)
      (rows_past (rows_miss m rs) i _ (omega arith))
  rows_hit (later {x} {g} n t) (more q rs) =
      let ne : length g ≡ i → ⊥ = λ y. omega (arith, hits_inside t) in
      more (get_or-set_other es i (length g) _ no_entry ne ∙ q ∙ sym (kept_miss c h g x n)) (rows_hit t rs)
