-- Laws of the chain: places are inside the arrays, and a walk goes link by link.
use Prim.Native.Nat.{ℕ, zero, suc, ◌-◌, ◌<◌, ◌≤◌}
use mathlib.Core.Path.{◌≡◌, refl, sym, ap, ◌∙◌}
use mathlib.Core.Bool.{Bool, true, false, cond, ◌||◌}
use mathlib.Core.List.{List, [], ◌∷◌}
use native.Mathlib.Numerals.{sub-one}
use native.Mathlib.Omega.{arith}
use lib.ListN.{length, get_or}
use lib.Dec.{eqb, ltb}
use borrow.Author.Tests.{eqb-false, ltb-false}
use Rattle.entries.specs.Data.{no_entry}
use Rattle.entries.specs.declared.data.Entry.{Entry}
use Rattle.std.specs.Prelude.{Option, None, Some}
use Rattle.std.specs.List.{find}
use Rattle.std.specs.Option.{option_map}
use Rattle.changes.specs.declared.Link.{Link}
use Rattle.book.specs.Fresh.{accounts_most, entries_most}
use Rattle.book.specs.declared.Found.TheVariants.{At}
use Rattle.book.specs.Chain.{slot_of, ends_of, place_of, link_at, walk_of, found_by, sought_in}

pub slot_inside : (account : ℕ) → slot_of account < accounts_most
unfolding slot_of
slot_inside account = first (eqb account 0) (ltb accounts_most account) refl
  where
    first : (s t : Bool) → ltb accounts_most account ≡ t → cond s 0 (cond t 0 (account - 1)) < accounts_most
    first true t e = omega arith
    first false true e = omega arith
    first false false e = omega (arith, ltb-false accounts_most account e)

-- a link that does not end a chain is the number of an entry
pub link_inside : (at : ℕ) → ends_of at ≡ false → (0 < at) × (at ≤ entries_most)
unfolding ends_of
link_inside at = go (eqb at 0) (ltb entries_most at) refl refl
  where
    go : (s t : Bool) → eqb at 0 ≡ s → ltb entries_most at ≡ t → s || t ≡ false → (0 < at) × (at ≤ entries_most)
    go true t e l h = let z : ◌≡◌ {A = ℕ} 0 1 = cc in absurd (omega arith)
    go false true e l h = let z : ◌≡◌ {A = ℕ} 0 1 = cc in absurd (omega arith)
    go false false e l h = let z = eqb-false at 0 e in (omega arith, ltb-false entries_most at l)

pub place_link : (at : ℕ) → ends_of at ≡ false → place_of at ≡ at - 1
unfolding place_of
place_link at e = rw e refl

pub place_inside : (at : ℕ) → place_of at < entries_most
unfolding place_of
place_inside at = go (ends_of at) refl
  where
    go : (t : Bool) → ends_of at ≡ t → cond t 0 (at - 1) < entries_most
    go true e = omega arith
    go false e = omega (arith, link_inside at e)

sought_find : (test : Entry → Bool) (ls : List Link) → sought_in test ls ≡ found_by (find (λ l. test l.entry) ls)
unfolding sought_in
sought_find test [] = refl
sought_find test (l ∷ ls) = go (test l.entry) (sought_find test ls)
  where
    go : (t : Bool) → sought_in test ls ≡ found_by (find (λ k. test k.entry) ls) → cond t (At l) (sought_in test ls) ≡ found_by (cond t (Some l) (find (λ k. test k.entry) ls))
    go true e = refl
    go false e = e

-- what the library's search finds is what is sought
pub sought_by : (test : Entry → Bool) (ls : List Link) (o : Option Link) → option_map (λ l. l) o ≡ find (λ l. test l.entry) ls → sought_in test ls ≡ found_by o
sought_by test ls None e = sought_find test ls ∙ ap found_by (sym e)
sought_by test ls (Some l) e = sought_find test ls ∙ ap found_by (sym e)

module _ (es : List Entry) where
  pub walk_none : (at : ℕ) → walk_of es 0 at ≡ []
  unfolding walk_of
  walk_none at = refl

  pub walk_ends : {fuel : ℕ} (at : ℕ) → 0 < fuel → ends_of at ≡ true → walk_of es fuel at ≡ []
  unfolding walk_of
  walk_ends {fuel = zero} at h e = absurd (omega arith)
  walk_ends {fuel = suc f} at h e = simp e

  pub walk_zero : (fuel : ℕ) → walk_of es fuel 0 ≡ []
  unfolding walk_of ends_of
  walk_zero zero = refl
  walk_zero (suc fuel) = refl

  pub walk_link : {fuel : ℕ} (at : ℕ) → 0 < fuel → ends_of at ≡ false →
      walk_of es fuel at ≡ link_at es (place_of at) ∷ walk_of es (fuel - 1) (get_or es (place_of at) no_entry).next
  unfolding walk_of
  walk_link {fuel = zero} at h e = absurd (omega arith)
  walk_link {fuel = suc f} at h e = rw (sub-one (suc f)) (simp e)

  -- a walk has at most as many entries as links
  pub walk_short : (fuel at : ℕ) → length (walk_of es fuel at) ≤ fuel
  unfolding walk_of
  walk_short zero at = omega arith
  walk_short (suc fuel) at = go (ends_of at) (walk_short fuel (get_or es (place_of at) no_entry).next)
    where
      go : (t : Bool) → length (walk_of es fuel (get_or es (place_of at) no_entry).next) ≤ fuel →
          length (cond t [] (link_at es (place_of at) ∷ walk_of es fuel (get_or es (place_of at) no_entry).next)) ≤ suc fuel
      go true h = omega arith
      go false h = omega arith

  -- a link of a walk stands inside the book
  pub first_inside : (fuel at : ℕ) {l : Link} {ls : List Link} → walk_of es fuel at ≡ l ∷ ls → l.place < entries_most
  unfolding walk_of
  first_inside zero at e = let z : ◌≡◌ {A = ℕ} 0 1 = cc in absurd (omega arith)
  first_inside (suc fuel) at {l = l} {ls = ls} e = go (ends_of at) e
    where
      go : (t : Bool) → cond t [] (link_at es (place_of at) ∷ walk_of es fuel (get_or es (place_of at) no_entry).next) ≡ l ∷ ls → l.place < entries_most
      go true e = let z : ◌≡◌ {A = ℕ} 0 1 = cc in absurd (omega arith)
      go false e = let same : link_at es (place_of at) ≡ l = cc in omega (arith, place_inside at, ap (λ (k : Link). k.place) same)

  -- what is found stands inside the book
  pub found_inside : (test : Entry → Bool) (fuel at : ℕ) {l : Link} → sought_in test (walk_of es fuel at) ≡ At l → l.place < entries_most
  unfolding walk_of sought_in
  found_inside test zero at e = let z : ◌≡◌ {A = ℕ} 0 1 = cc in absurd (omega arith)
  found_inside test (suc fuel) at {l = l} e = go (ends_of at) (test (link_at es (place_of at)).entry) (found_inside test fuel (get_or es (place_of at) no_entry).next) e
    where
      rest : List Link
      rest = walk_of es fuel (get_or es (place_of at) no_entry).next

      go : (s t : Bool) → (sought_in test rest ≡ At l → l.place < entries_most) → sought_in test (cond s [] (link_at es (place_of at) ∷ rest)) ≡ At l → l.place < entries_most
      go true t again e = let z : ◌≡◌ {A = ℕ} 0 1 = cc in absurd (omega arith)
      go false t again e = here (test (get_or es (place_of at) no_entry)) e
        where
          here : (t : Bool) → cond t (At (link_at es (place_of at))) (sought_in test rest) ≡ At l → l.place < entries_most
          here true e = let same : link_at es (place_of at) ≡ l = cc in omega (arith, place_inside at, ap (λ (k : Link). k.place) same)
          here false e = again e

  -- and is the entry of its place
  pub found_entry : (test : Entry → Bool) (fuel at : ℕ) {l : Link} → sought_in test (walk_of es fuel at) ≡ At l → l.entry ≡ get_or es l.place no_entry
  unfolding walk_of sought_in
  found_entry test zero at e = let z : ◌≡◌ {A = ℕ} 0 1 = cc in absurd (omega arith)
  found_entry test (suc fuel) at {l = l} e = go (ends_of at) (found_entry test fuel (get_or es (place_of at) no_entry).next) e
    where
      rest : List Link
      rest = walk_of es fuel (get_or es (place_of at) no_entry).next

      here : (t : Bool) → (sought_in test rest ≡ At l → l.entry ≡ get_or es l.place no_entry) → cond t (At (link_at es (place_of at))) (sought_in test rest) ≡ At l →
          l.entry ≡ get_or es l.place no_entry
      here true again e =
          let same : l ≡ link_at es (place_of at) = cc in
          ap (λ (k : Link). k.entry) same ∙ ap (λ (k : Link). get_or es k.place no_entry) (sym same)
      here false again e = again e

      go : (t : Bool) → (sought_in test rest ≡ At l → l.entry ≡ get_or es l.place no_entry) → sought_in test (cond t [] (link_at es (place_of at) ∷ rest)) ≡ At l →
          l.entry ≡ get_or es l.place no_entry
      go true again e = let z : ◌≡◌ {A = ℕ} 0 1 = cc in absurd (omega arith)
      go false again e = here (test (get_or es (place_of at) no_entry)) again e
