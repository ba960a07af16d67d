-- Laws of the account that a run charges next, of its notes, account by account, and of its charge.
use Prim.Native.Nat.{ℕ, zero, suc, ◌+◌, ◌-◌, ◌≤◌, ◌<◌}
use mathlib.Core.Path.{◌≡◌, refl, ap, subst, ◌∙◌}
use mathlib.Core.Bool.{Bool, true, false, cond}
use mathlib.Core.List.{List, [], ◌∷◌, map}
use native.Mathlib.Omega.{arith}
use native.Mathlib.Numerals.{add-one}
use lib.ListN.{length, drop, get_or}
use lib.Dec.{ltb}
use Rattle.std.specs.Prelude.{Option, Some}
use Rattle.std.specs.List.{zip, find, range_with_len}
use Rattle.std.specs.Option.{option_map}
use Rattle.std.specs.Range.{range_inclusive_len, range_inclusive_left, range_inclusive_steps}
use Rattle.std.specs.declared.ops.RangeInclusive.{RangeInclusive}
use Rattle.std.proofs.lemmas.List.FromFn.{length-range_with_len}
use Rattle.std.proofs.lemmas.Iterator.{YieldsList}
use Rattle.std.proofs.lemmas.Iterator.Consumers.{YieldsList-from_shown}
use Rattle.measures.specs.Cents.{cents}
use Rattle.measures.specs.declared.Cents.{Cents}
use Rattle.entries.specs.Ranges.{amount_most}
use Rattle.rules.specs.Accounts.{no_account}
use Rattle.rules.specs.Formulas.{late_amount_of}
use Rattle.rules.specs.declared.accounts.Account.{Account}
use Rattle.book.specs.Fresh.{accounts_most}
use Rattle.runs.specs.Runs.{arrears_of, next_noted}

-- THE NEXT ACCOUNT

-- a range yields the numbers that are left of it
abbrev left_in : RangeInclusive ℕ → List ℕ
left_in s = range_with_len s.start (range_inclusive_left (λ x y. y - x) s)

yields_left : (s : RangeInclusive ℕ) → YieldsList (range_inclusive_steps (λ x y. y - x) (λ x y. y ≡ x + 1)) (λ x. x) s (left_in s)
yields_left =
    YieldsList-from_shown _ _ left_in (λ s t h. length-range_with_len s.start _ ∙ h.1.0)
    (λ s x t h. rw (← h.1.1, add-one (range_inclusive_left (λ x y. y - x) t), h.1.0) (ap (λ l. s.start ∷ l) (after s.start t.start t.end t.exhausted h.1.2)))
  where
    after : (a b e : ℕ) (t : Bool) → (t ≡ false → b ≡ a + 1) → let n = range_inclusive_len (λ x y. y - x) b e t in range_with_len (a + 1) n ≡ range_with_len b n
    after a b e true h = refl
    after a b e false h = rw (h refl) refl

pub yields_accounts : (s : RangeInclusive ℕ) → s.start ≡ 1 → s.end ≡ accounts_most → s.exhausted ≡ false →
    YieldsList (range_inclusive_steps (λ x y. y - x) (λ x y. y ≡ x + 1)) (λ x. x) s (range_with_len 1 accounts_most)
yields_accounts s start end fresh =
    let all : left_in s ≡ range_with_len 1 accounts_most = rw (start, end, fresh) refl in
    subst (λ l. YieldsList (range_inclusive_steps (λ x y. y - x) (λ x y. y ≡ x + 1)) (λ x. x) s l) all (yields_left s)

abbrev pub has_arrears : ℕ × Cents → Bool
has_arrears n = ltb 0 n.1.0

abbrev found_after : ℕ → List ℕ → List Cents → Option ℕ
found_after charged accounts ns = option_map (λ p. p.0) (find has_arrears (drop charged (zip accounts ns)))

-- the first account after one that has arrears, of n accounts from a on with their notes
noted_found : (charged n a : ℕ) (ns : List Cents) → length ns ≤ n → found_after charged (range_with_len a n) ns ≡ next_noted (a + charged) (drop charged ns)
unfolding next_noted
noted_found zero zero a [] h = refl
noted_found zero (suc n) a [] h = refl
noted_found (suc charged) zero a [] h = refl
noted_found (suc charged) (suc n) a [] h = refl
noted_found charged zero a (x ∷ ns) h = absurd (omega arith)
noted_found zero (suc n) a (x ∷ ns) h =
    let same : a + 0 ≡ a = omega arith in
    rw same (by (ltb 0 x.0) (noted_found zero n (a + 1) ns (omega arith) ∙ ap (λ i. next_noted i ns) (omega arith)))
  where
    by : (t : Bool) → found_after 0 (range_with_len (a + 1) n) ns ≡ next_noted (a + 1) ns →
        option_map (λ p. p.0) (cond t (Some (a, x)) (find has_arrears (zip (range_with_len (a + 1) n) ns))) ≡ cond t (Some a) (next_noted (a + 1) ns)
    by true e = refl
    by false e = e
noted_found (suc charged) (suc n) a (x ∷ ns) h = noted_found charged n (a + 1) ns (omega arith) ∙ ap (λ i. next_noted i (drop charged ns)) (omega arith)

pub next_found : (charged : ℕ) (ns : List Cents) → length ns ≤ accounts_most → found_after charged (range_with_len 1 accounts_most) ns ≡ next_noted (charged + 1) (drop charged ns)
next_found charged ns long = noted_found charged accounts_most 1 ns long ∙ ap (λ i. next_noted i (drop charged ns)) (omega arith)

-- the arrears of every account, place by place
pub arrears_are : (accs : List Account) (noted : List Cents) → length noted ≡ length accs →
    ((i : ℕ) → i < length accs → get_or noted i (cents 0) ≡ (get_or accs i no_account).arrears) → noted ≡ map arrears_of accs
arrears_are [] [] e h = refl
arrears_are [] (n ∷ ns) e h = absurd (omega arith)
arrears_are (a ∷ accs) [] e h = absurd (omega arith)
arrears_are (a ∷ accs) (n ∷ ns) e h =
    let first : n ≡ a.arrears = h 0 (omega arith) in
    rw (first, arrears_are accs ns (omega arith) (λ i k. h (suc i) (omega arith))) refl

pub late_most : (noted : Cents) (rate : ℕ) → (late_amount_of noted rate).0 ≤ amount_most
unfolding late_amount_of
late_most noted rate = omega arith
