-- Lists of calls: the same on two states, on a book and on a history or on an image and on a history; and what held before a list.
use mathlib.Core.Path.{◌≡◌, refl, ap₂}
use mathlib.Core.List.{List, [], ◌∷◌}
use Rattle.history.specs.History.{after, answers_along}

-- `Stands` is what stands between the two states and the calls to come: where each call keeps it and gives the same answer on both,
-- so does a list
module _ {S T A B : Type 0} (left : S → A → S × B) (right : T → A → T × B) (Stands : S → T → List A → Type 0)
    (one : (s : S) (t : T) (x : A) (xs : List A) → Stands s t (x ∷ xs) → Stands (left s x).0 (right t x).0 xs × ((left s x).1 ≡ (right t x).1)) where
  pub lists_same : (s : S) (t : T) (xs : List A) → Stands s t xs → Stands (after left s xs) (after right t xs) [] × (answers_along left s xs ≡ answers_along right t xs)
  lists_same s t [] w = (w, refl)
  lists_same s t (x ∷ xs) w = let p = one s t x xs w in let rest = lists_same (left s x).0 (right t x).0 xs p.0 in (rest.0, ap₂ (λ y ys. y ∷ ys) p.1 rest.1)

-- what holds after a list held before it, where that is so of each call
pub along : {S A B : Type 0} (next : S → A → S × B) (P : S → Type 0) → ((s : S) (x : A) → P (next s x).0 → P s) → (s : S) (xs : List A) → P (after next s xs) → P s
along next P one s [] p = p
along next P one s (x ∷ xs) p = one s x (along next P one (next s x).0 xs p)
