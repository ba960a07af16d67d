-- Laws of a posting: what an accepted one has passed, and what each decision makes of the book.
use Prim.Native.Nat.{ℕ, ◌+◌, ◌<◌, ◌≤◌}
use mathlib.Core.List.{List, [], ◌∷◌}
use lib.ListN.{length, get_or}
use mathlib.Core.Path.{◌≡◌, refl, subst, ap, ◌∙◌}
use mathlib.Core.Bool.{Bool, true, false, cond}
use native.Mathlib.Omega.{arith}
use borrow.Author.Tests.{leb-false}
use Rattle.measures.specs.declared.Cents.{Cents}
use Rattle.entries.specs.Kinds.{kind_of, same_of, names_of}
use Rattle.entries.specs.Data.{no_entry, with_of, points_at}
use Rattle.entries.specs.Refusals.{Check, decided_of}
use Rattle.entries.specs.declared.arrivals.Arrival.{Arrival}
use Rattle.entries.specs.declared.data.Data.{Data}
use Rattle.entries.specs.declared.data.Entry.{Entry}
use Rattle.entries.specs.declared.raw.Raw.{Raw}
use Rattle.entries.specs.declared.kinds.Kind.{Kind}
use Rattle.entries.specs.declared.kinds.Kind.TheVariants as kind
use Rattle.entries.specs.declared.refusals.Refusal.{Refusal}
use Rattle.entries.proofs.RefusalsLaws.{unbroken}
use Rattle.rules.specs.Answers.{posting_reply_of}
use Rattle.changes.specs.Changes.{Decision, added_customer_of, expiry_of, correction_of, reduction_of, retention_of, contribution_of, bill_of, payment_of, deposit_of, guarantee_of, late_charge_of, deposit_return_of, own_change_of, naming_change_of, own_decision_of, naming_decision_of}
use Rattle.rules.specs.declared.accounts.Account.{Account}
use Rattle.changes.specs.declared.Change.{Change}
use Rattle.book.specs.Fresh.{entries_most}
use Rattle.book.specs.Refusals.{entry_rows, check_entry_of, searched_of, decision_by}
use Rattle.book.specs.Runs.{arrival_of}
use Rattle.book.specs.Chain.{link_of}
use Rattle.book.specs.Serials.{last_of}
use Rattle.book.specs.Posting.{account_at, lookup_of, paid_of, stored_of, decided_book, decision_of, answer_of, enter_of, post_of, posts_of}
use Rattle.changes.specs.declared.Link.{Link}
use Rattle.book.specs.declared.Book.{Book}
use Rattle.book.specs.declared.Found.{Found}
use Rattle.book.specs.declared.Found.TheVariants.{At, Nothing}
use Rattle.book.proofs.ChainLaws.{found_inside, found_entry}
use Rattle.std.specs.Prelude.{IfSome, Some, Ok, Err}

pub decided_passed : (c : Check) (o : Decision) (x : Change) → decided_of c Err o ≡ Ok x → (c ≡ Ok tt) × (o ≡ Ok x)
unfolding decided_of
decided_passed (Ok tt) o x e = (refl, e)
decided_passed (Err n) o x e = let z : ◌≡◌ {A = ℕ} 0 1 = cc in absurd (omega arith)

-- an accepted entry found the book not full
pub room : (w : Arrival) (b : Book) (r : Raw) (x : Change) → decision_of w b r ≡ Ok x → b.count < entries_most
unfolding decision_of decision_by check_entry_of
room w b r x e =
    let passed = (decided_passed _ _ x e).0 in
    leb-false entries_most b.count (unbroken 7 (entry_rows r (kind_of r.kind) w b.count (last_of b.last r.node)) passed)

-- WHAT A DECISION NAMES

-- a link's entry with other data
abbrev rewritten : Link → Data → Link
rewritten l d = record { place = l.place; entry = with_of l.entry d }

-- what holds of the entry that is found, whatever its data are, holds of the entry that a decision names
module _ (P : Link → Type 0) where
  one_of : (t : Bool) (x y : Change) → IfSome x.named P → IfSome y.named P → IfSome (cond t x y).named P
  one_of true x y p q = p
  one_of false x y p q = q

  own_named : (r : Raw) (k : Kind) (acc : Account) → IfSome (own_change_of r k acc).named P
  unfolding own_change_of contribution_of bill_of payment_of deposit_of guarantee_of late_charge_of deposit_return_of
  own_named r k acc =
      one_of (same_of k kind.Contribution) _ _ _
      (one_of (same_of k kind.Bill) _ _ _
      (one_of (same_of k kind.Payment) _ _ _
      (one_of (same_of k kind.Deposit) _ _ _
      (one_of (same_of k kind.Guarantee) _ _ _ (one_of (same_of k kind.LateCharge) _ _ _ _)))))

  naming_named : (r : Raw) (k : Kind) (acc : Account) (paid : Cents) (l : Link) → ((d : Data) → P (rewritten l d)) → IfSome (naming_change_of r k acc paid l).named P
  unfolding naming_change_of added_customer_of expiry_of reduction_of retention_of correction_of
  naming_named r k acc paid l h =
      one_of (same_of k kind.AddedCustomer) _ _ (h _)
      (one_of (same_of k kind.Expiry) _ _ (h _)
      (one_of (same_of k kind.Reduction) _ _ (h _) (one_of (same_of k kind.Retention) _ _ (h _) (h _))))

  named_holds : (w : Arrival) (b : Book) (r : Raw) (x : Change) → ((l : Link) (d : Data) → lookup_of b r ≡ At l → P (rewritten l d)) →
      decision_of w b r ≡ Ok x → IfSome x.named P
  unfolding decision_of decision_by searched_of own_decision_of naming_decision_of
  named_holds w b r x h e = go (names_of (kind_of r.kind)) (lookup_of b r) refl (decided_passed _ _ x e).1
    where
      is : (c : Check) (y : Change) → decided_of c Err (Ok y) ≡ Ok x → y ≡ x
      is c y q = let same = (decided_passed c (Ok y) x q).1 in cc

      go : (t : Bool) (f : Found) → lookup_of b r ≡ f →
          cond t (searched_of r (kind_of r.kind) (account_at b r.account) (paid_of b r) f) (own_decision_of r (kind_of r.kind) (account_at b r.account)) ≡ Ok x →
          IfSome x.named P
      go true Nothing p q = let z : ◌≡◌ {A = ℕ} 0 1 = cc in absurd (omega arith)
      go true (At l) p q = subst (λ (y : Change). IfSome y.named P) (is _ _ q) (naming_named r _ _ _ l (λ d. h l d p))
      go false f p q = subst (λ (y : Change). IfSome y.named P) (is _ _ q) (own_named r _ _)

-- it stands where the search found an entry
pub names_found : (w : Arrival) (b : Book) (r : Raw) (x : Change) (l : Link) → decision_of w b r ≡ Ok x → x.named ≡ Some l →
    (f : Entry) × (lookup_of b r ≡ At (link_of l.place f))
names_found w b r x l e n =
    let P : Link → Type 0 = λ k. (f : Entry) × (lookup_of b r ≡ At (link_of k.place f)) in
    subst (λ o. IfSome o P) n (named_holds P w b r x (λ k d p. (k.entry, p)) e)

-- it stands inside the book
pub named_inside : (w : Arrival) (b : Book) (r : Raw) (x : Change) → decision_of w b r ≡ Ok x → IfSome x.named (λ l. l.place < entries_most)
unfolding lookup_of
named_inside w b r x = named_holds _ w b r x (λ l d. found_inside b.entries (points_at r) _ _)

-- and is the book's entry of its place, but for its data
pub named_kept : (w : Arrival) (b : Book) (r : Raw) (x : Change) → decision_of w b r ≡ Ok x →
    IfSome x.named (λ l. l.entry ≡ with_of (get_or b.entries l.place no_entry) l.entry.«data»)
unfolding lookup_of with_of
named_kept w b r x =
    named_holds _ w b r x
    (λ l d p. ap (λ e. with_of e d) (found_entry b.entries (points_at r) _ _ p))

pub enter_refused : (w : Arrival) (b : Book) (r : Raw) (n : Refusal) → decision_of w b r ≡ Err n → enter_of w b r ≡ record { book = b; reply = posting_reply_of (Err n) }
unfolding enter_of decided_book answer_of
enter_refused w b r n e = simp e

pub enter_accepted : (w : Arrival) (b : Book) (r : Raw) (x : Change) → decision_of w b r ≡ Ok x →
    enter_of w b r ≡ record { book = stored_of b r x; reply = posting_reply_of (Ok (record { number = b.count + 1; amounts = x.amounts })) }
unfolding enter_of decided_book answer_of
enter_accepted w b r x e = simp e

-- an entry leaves the run as it is
pub enter_run : (w : Arrival) (b : Book) (r : Raw) → (enter_of w b r).book.run ≡ b.run
unfolding enter_of decided_book stored_of
enter_run w b r = by (decision_of w b r)
  where
    by : (o : Decision) → (decided_book b r o).run ≡ b.run
    by (Err n) = refl
    by (Ok c) = refl

-- LISTS OF POSTINGS

-- an entry adds one to the count at most
post_count : (b : Book) (r : Raw) → (post_of b r).book.count ≤ b.count + 1
unfolding post_of enter_of decided_book stored_of
post_count b r = by (decision_of (arrival_of b.run) b r)
  where
    by : (o : Decision) → (decided_book b r o).count ≤ b.count + 1
    by (Err n) = omega arith
    by (Ok c) = omega arith

pub posts_count : (b : Book) (rs : List Raw) → (posts_of b rs).count ≤ b.count + length rs
unfolding posts_of
posts_count b [] = omega arith
posts_count b (r ∷ rs) = omega (arith, post_count b r, posts_count (post_of b r).book rs)

pub posts_run : (b : Book) (rs : List Raw) → (posts_of b rs).run ≡ b.run
unfolding posts_of post_of
posts_run b [] = refl
posts_run b (r ∷ rs) = posts_run (post_of b r).book rs ∙ enter_run (arrival_of b.run) b r
