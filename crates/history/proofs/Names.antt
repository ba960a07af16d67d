-- What an entry names: at most one entry, older than itself, and none that is still to come.
use mathlib.Core.Path.{◌≡◌, refl, sym, ap, ◌∙◌, subst}
use Prim.Native.Nat.{ℕ, ◌≤◌, ◌<◌}
use native.Mathlib.Omega.{arith}
use mathlib.Core.Bool.{Bool, true, false, cond, ◌&&◌, ◌||◌, true≢false, and-false}
use mathlib.Core.List.{[], ◌∷◌}
use lib.ListN.{length}
use lib.Dec.{eqb}
use borrow.Author.Tests.{eqb-true, eq-eqb, leb-false}
use Rattle.entries.specs.Kinds.{kind_of, same_of}
use Rattle.entries.specs.declared.raw.Raw.{Raw}
use Rattle.entries.specs.declared.kinds.Kind.{Kind}
use Rattle.entries.specs.declared.kinds.Kind.TheVariants as kind
use Rattle.entries.proofs.Ranges.{both_true}
use Rattle.entries.proofs.KindsLaws.{same_kind}
use Rattle.history.specs.History.{dated, refund_end, History, last_serial, naming, suits, points, names, Target, absent, present, find, Fate, posted_fate, fate_after, fate, paid_by, Amounts, judge, added_up, gives_back}
use Rattle.history.specs.Laws.{Valid, empty, joins, In, newest, older, Contributed, Again, Once, Each, HasContribution}
use Rattle.history.proofs.Accept.{accepts, Role, alone, upon, role, accepts_upon}

-- last serials rise
pub last_up : (h : History) (c : Raw) (n : ℕ) → judge h c ≡ 0 → last_serial h n ≤ last_serial (c ∷ h) n
unfolding last_serial
last_up h c n j = go (eqb c.node n) refl
  where
    go : (t : Bool) → eqb c.node n ≡ t → last_serial h n ≤ cond t c.serial (last_serial h n)
    go true e =
        let q : last_serial h c.node ≡ last_serial h n = ap (λ m. last_serial h m) (eqb-true _ _ e) in
        omega (arith, (accepts h c j).serial_above)
    go false e = omega arith

pub last_own : (h : History) (c : Raw) → last_serial (c ∷ h) c.node ≡ c.serial
unfolding last_serial
last_own h c = rw (eq-eqb c.node c.node refl)

pub record Pointed (c e : Raw) : Type 0 where
  pub account : e.account ≡ c.account
  pub node : e.node ≡ c.named_node
  pub serial : e.serial ≡ c.named_serial

pub pointed : (c e : Raw) → points c e ≡ true → Pointed c e
unfolding points
pointed c e t =
    let own = both_true _ _ t in
    let pair = both_true _ _ own.1 in
    record { account = eqb-true _ _ own.0; node = eqb-true _ _ pair.0; serial = eqb-true _ _ pair.1 }

pub points_at_lem : (c e : Raw) → Pointed c e → points c e ≡ true
unfolding points
points_at_lem c e w = simp (eq-eqb _ _ w.account, eq-eqb _ _ w.node, eq-eqb _ _ w.serial)

-- what a search has found
pub record Hit (h : History) (c : Raw) (i : ℕ) (e : Raw) : Type 0 where
  pub inside : i < length h
  pub aimed : points c e ≡ true
  pub member : In e h
  pub old : c.named_serial ≤ last_serial h c.named_node

pub hit : {h : History} → Valid h → (c : Raw) (i : ℕ) (e : Raw) → find h c ≡ present i e → Hit h c i e
unfolding find
hit empty c i e f = let z : ◌≡◌ {A = ℕ} 0 1 = cc in absurd (omega arith)
hit (joins {r} {h} v j) c i e f = go (λ q. hit v c i e q) (points c r) refl f
  where
    go : (find h c ≡ present i e → Hit h c i e) → (t : Bool) → points c r ≡ t → cond t (present (length h) r) (find h c) ≡ present i e → Hit (r ∷ h) c i e
    go ih true p q =
        let w = pointed c r p in
        let same : r ≡ e = cc in
        let place : length h ≡ i = cc in
        let there : last_serial (r ∷ h) c.named_node ≡ r.serial = ap (λ n. last_serial (r ∷ h) n) (sym w.node) ∙ last_own h r in
        record {
          inside = omega arith;
          aimed = subst (λ x. points c x ≡ true) same p;
          member = newest same;
          old = omega (arith, w.serial);
        }
    go ih false p q =
        let w = ih q in
        record { inside = omega (arith, w.inside); aimed = w.aimed; member = older w.member; old = omega (arith, w.old, last_up h r c.named_node j) }

-- an entry whose serial is new: what points at it finds nothing
pub unfound : {h : History} → Valid h → (c r : Raw) → points c r ≡ true → last_serial h r.node < r.serial → find h c ≡ absent
unfound {h} v c r p n = go (find h c) refl
  where
    go : (s : Target) → find h c ≡ s → s ≡ absent
    go absent e = refl
    go (present i x) e =
        let w = pointed c r p in
        let q : last_serial h r.node ≡ last_serial h c.named_node = ap (λ m. last_serial h m) w.node in
        absurd (omega (arith, (hit v c i x e).old, w.serial))

-- what an accepted entry names is no entry with a newer serial
pub named_old : {h : History} → Valid h → (c r : Raw) → Role h c → last_serial h r.node < r.serial → names c r ≡ false
unfolding names
named_old {h} v c r w n = go (naming (kind_of c.kind)) refl (points c r) refl
  where
    clash : points c r ≡ true → naming (kind_of c.kind) ≡ true → Role h c → ⊥
    clash p k (alone e) = true≢false (sym k ∙ e)
    clash p k (upon e i x f s) =
        let z : present i x ≡ absent = sym f ∙ unfound v c r p n in
        let y : ◌≡◌ {A = ℕ} 0 1 = cc in
        omega arith

    go : (t : Bool) → naming (kind_of c.kind) ≡ t → (u : Bool) → points c r ≡ u → (t && u) ≡ false
    go true k true p = absurd (clash p k w)
    go true k false p = refl
    go false k u p = refl

-- an accepted entry does not name itself
pub not_itself : {h : History} → Valid h → (r : Raw) → judge h r ≡ 0 → names r r ≡ false
not_itself {h} v r j = named_old v r r (role h r j) (accepts h r j).serial_above

pick : {A : Type 0} {x y : A} (P : A → Type 0) (t : Bool) → P x → P y → P (cond t x y)
pick P true p q = p
pick P false p q = q

-- what an older fate has, and each change of it by an entry c, a fate has; 7 and 11 make the same change
pub fate_cases : (P : Fate → Type 0) (c : Raw) (h : History) (e : Raw) → let f = fate h e in
    P f → P (fate_after kind.AddedCustomer c e (paid_by h c) f) → P (fate_after kind.Expiry c e (paid_by h c) f) → P (fate_after kind.Correction c e (paid_by h c) f) →
    P (fate_after kind.Reduction c e (paid_by h c) f) → P (fate (c ∷ h) e)
unfolding fate
fate_cases P c h e same added closed corrected reduced =
    let k = kind_of c.kind in
    pick P (names c e)
    (pick P (same_of k kind.AddedCustomer) added
    (pick P (same_of k kind.Expiry || same_of k kind.Retention) closed (pick P (same_of k kind.Correction) corrected (pick P (same_of k kind.Reduction) reduced same))))
    same

-- as the history grows
pub fate_miss : (c : Raw) (h : History) (x : Raw) → names c x ≡ false → fate (c ∷ h) x ≡ fate h x
unfolding fate
fate_miss c h x e = rw e

pub fate_hit : (c : Raw) (h : History) (x : Raw) → names c x ≡ true → fate (c ∷ h) x ≡ fate_after (kind_of c.kind) c x (paid_by h c) (fate h x)
unfolding fate
fate_hit c h x e = rw e

-- what is not named is not given back, by a kind that names
pub gives_miss : (k : Kind) → naming k ≡ true → (c x : Raw) → names c x ≡ false → gives_back k x c ≡ false
unfolding names
gives_miss k n c x e = go (same_of (kind_of c.kind) k) refl
  where
    go : (t : Bool) → same_of (kind_of c.kind) k ≡ t → (t && points c x) ≡ false
    go true p = rw (ap naming (same_kind (kind_of c.kind) k p) ∙ n) at e
    go false p = refl

-- an entry whose serial is new has the fate of a posted one
unnamed : {h : History} → Valid h → (r : Raw) → last_serial h r.node < r.serial → fate h r ≡ posted_fate r
unfolding fate
unnamed empty r n = refl
unnamed (joins {r = c} {h} v j) r n =
    let before : last_serial h r.node < r.serial = omega (arith, last_up h c r.node j) in
    fate_miss c h r (named_old v c r (role h c j) before) ∙ unnamed v r before

module _ (k : Kind) (n : naming k ≡ true) (f : Amounts → ℕ) (r : Raw) where
  none_given : {h : History} → Valid h → last_serial h r.node < r.serial → added_up f (gives_back k r) h ≡ 0
  unfolding added_up
  none_given empty l = refl
  none_given (joins {r = c} {h} v j) l =
      let before : last_serial h r.node < r.serial = omega (arith, last_up h c r.node j) in
      rw (gives_miss k n c r (named_old v c r (role h c j) before)) (omega (arith, none_given v before))

  -- nothing is given back of an entry that joins
  pub given_new : {h : History} → Valid h → judge h r ≡ 0 → added_up f (gives_back k r) (r ∷ h) ≡ 0
  unfolding added_up
  given_new {h} v j = rw (gives_miss k n r r (not_itself v r j)) (omega (arith, none_given v (accepts h r j).serial_above))

-- an entry that joins has the fate of a posted one
pub fate_new : {h : History} → Valid h → (r : Raw) → judge h r ≡ 0 → fate (r ∷ h) r ≡ posted_fate r
fate_new {h} v r j = fate_miss r h r (not_itself v r j) ∙ unnamed v r (accepts h r j).serial_above

-- c names nothing of a list
pub data Misses (c : Raw) : History → Type 0 where
  none : Misses c []
  miss : {x : Raw} {g : History} → names c x ≡ false → Misses c g → Misses c (x ∷ g)

-- c names one entry of a list, e, with i older entries, and no other
pub data Hits (c : Raw) (i : ℕ) (e : Raw) : History → Type 0 where
  first : {x : Raw} {g : History} → names c x ≡ true → x ≡ e → length g ≡ i → Misses c g → Hits c i e (x ∷ g)
  later : {x : Raw} {g : History} → names c x ≡ false → Hits c i e g → Hits c i e (x ∷ g)

pub plain : (c x : Raw) → naming (kind_of c.kind) ≡ false → names c x ≡ false
unfolding names
plain c x k = rw k

pub misses_kind : (c : Raw) → naming (kind_of c.kind) ≡ false → (g : History) → Misses c g
misses_kind c k [] = none
misses_kind c k (x ∷ g) = miss (plain c x k) (misses_kind c k g)

not_pointed : (c x : Raw) → points c x ≡ false → names c x ≡ false
unfolding names
not_pointed c x p = rw p (and-false (naming (kind_of c.kind)))

pub misses_find : (c : Raw) (g : History) → find g c ≡ absent → Misses c g
unfolding find
misses_find c [] f = none
misses_find c (x ∷ g) f = go (λ q. misses_find c g q) (points c x) refl f
  where
    go : (find g c ≡ absent → Misses c g) → (t : Bool) → points c x ≡ t → cond t (present (length g) x) (find g c) ≡ absent → Misses c (x ∷ g)
    go ih true p q = let z : ◌≡◌ {A = ℕ} 0 1 = cc in absurd (omega arith)
    go ih false p q = miss (not_pointed c x p) (ih q)

pub hits : {g : History} → Valid g → (c : Raw) (i : ℕ) (e : Raw) → naming (kind_of c.kind) ≡ true → find g c ≡ present i e → Hits c i e g
unfolding find names
hits empty c i e k f = let z : ◌≡◌ {A = ℕ} 0 1 = cc in absurd (omega arith)
hits (joins {r = x} {h = g} v j) c i e k f = go (λ q. hits v c i e k q) (points c x) refl f
  where
    go : (find g c ≡ present i e → Hits c i e g) → (t : Bool) → points c x ≡ t → cond t (present (length g) x) (find g c) ≡ present i e → Hits c i e (x ∷ g)
    go ih true p q = first {x = x} {g = g} (rw (k, p)) (cc) (cc) (misses_find c g (unfound v c x p (accepts g x j).serial_above))
    go ih false p q = later (not_pointed c x p) (ih q)

-- no two entries carry the same node and serial
in_serial : {h : History} → Valid h → (e : Raw) → In e h → e.serial ≤ last_serial h e.node
in_serial empty e m = elim m [ ]
in_serial (joins {r} {h} v j) e (newest q) = subst (λ (y : Raw). y.serial ≤ last_serial (r ∷ h) y.node) q (omega (arith, last_own h r))
in_serial (joins {r} {h} v j) e (older t) = omega (arith, in_serial v e t, last_up h r e.node j)

serial_new : {h : History} → Valid h → (r x y : Raw) → judge h r ≡ 0 → r ≡ x → In y h → x.node ≡ y.node → x.serial ≡ y.serial → ⊥
serial_new {h} v r x y j q t n s =
    let above : last_serial h x.node < x.serial = subst (λ (z : Raw). last_serial h z.node < z.serial) q (accepts h r j).serial_above in
    let same : last_serial h x.node ≡ last_serial h y.node = ap (λ m. last_serial h m) n in
    omega (arith, in_serial v y t)

unique : {h : History} → Valid h → (x y : Raw) → In x h → In y h → x.node ≡ y.node → x.serial ≡ y.serial → x ≡ y
unique empty x y m _ n s = elim m [ ]
unique (joins v j) x y (newest p) (newest q) n s = sym p ∙ q
unique (joins {r} v j) x y (newest p) (older t) n s = absurd (serial_new v r x y j p t n s)
unique (joins {r} v j) x y (older t) (newest q) n s = absurd (serial_new v r y x j q t (sym n) (sym s))
unique (joins v j) x y (older t) (older u) n s = unique v x y t u n s

pointed_once : {h : History} → Valid h → (c x e : Raw) → In x h → In e h → points c x ≡ true → points c e ≡ true → x ≡ e
pointed_once v c x e m n p q =
    let a = pointed c x p in
    let b = pointed c e q in
    unique v x e m n (a.node ∙ sym b.node) (a.serial ∙ sym b.serial)

-- an entry at which an accepted one of a kind that names points is the one that it finds
pub record Aimed (h : History) (c e : Raw) : Type 0 where
  pub place : ℕ
  pub at : find h c ≡ present place e
  pub suited : suits (kind_of c.kind) (kind_of e.kind) ≡ true

pub aimed : {h : History} → Valid h → (c : Raw) → judge h c ≡ 0 → naming (kind_of c.kind) ≡ true → (e : Raw) → In e h → points c e ≡ true → Aimed h c e
aimed {h} v c j n e m p = go (role h c j)
  where
    go : Role h c → Aimed h c e
    go (alone o) = absurd (true≢false (sym n ∙ o))
    go (upon o i x f s) =
        let w = hit v c i x f in
        let same : e ≡ x = pointed_once v c e x m w.member p w.aimed in
        record { place = i; at = f ∙ ap (λ y. present i y) (sym same); suited = rw same s }

pub names_points : (c x : Raw) → naming (kind_of c.kind) ≡ true → points c x ≡ true → names c x ≡ true
unfolding names
names_points c x k p = rw (k, p)

-- LAW: each added customer has its contribution, and a date in its period
abbrev Refunded : History → Raw → Type 0
Refunded h c = (w : Contributed h c) × (dated c.day < refund_end w.entry)

refunded_new : {h : History} → Valid h → (r : Raw) → judge h r ≡ 0 → kind_of r.kind ≡ kind.AddedCustomer → Refunded h r
refunded_new {h} v r j k = go (role h r j)
  where
    go : Role h r → Refunded h r
    go (alone n) = absurd (true≢false (sym (ap naming k) ∙ n))
    go (upon n i e f s) =
        let x = hit v r i e f in (
          record { entry = e; member = x.member; contribution = same_kind _ _ (rw k at s); aimed = x.aimed },
          leb-false _ _ (rw k at (accepts_upon h r j n i e f).period_runs),
        )

pub contributed : {h : History} → Valid h → Each HasContribution h
contributed empty = tt
contributed (joins {r} v j) = (λ k. (refunded_new v r j k).0, contributed v)

with_newer : {r : Raw} {h : History} (c : Raw) → Refunded h c → Refunded (r ∷ h) c
with_newer c w = let x = w.0 in (record { entry = x.entry; member = older x.member; contribution = x.contribution; aimed = x.aimed }, w.1)

refunded : {h : History} → Valid h → (c : Raw) → In c h → kind_of c.kind ≡ kind.AddedCustomer → Refunded h c
refunded empty c m k = elim m [ ]
refunded (joins {r} {h} v j) c (newest q) k =
    subst (λ y. kind_of y.kind ≡ kind.AddedCustomer → Refunded (r ∷ h) y) q (λ k. with_newer r (refunded_new v r j k)) k
refunded (joins v j) c (older t) k = with_newer c (refunded v c t k)

pub in_period : {h : History} → Valid h → (c e : Raw) → In c h → In e h → kind_of c.kind ≡ kind.AddedCustomer → points c e ≡ true → dated c.day < refund_end e
in_period v c e m n k p =
    let w = refunded v c m k in
    let x = w.0 in
    subst (λ (y : Raw). dated c.day < refund_end y) (pointed_once v c x.entry e x.member n x.aimed p) w.1

-- LAW: no two corrections on one account name the same entry
-- an entry that a correction of the history names is corrected
corrected_by : (h : History) (d e : Raw) → In d h → kind_of d.kind ≡ kind.Correction → points d e ≡ true → (fate h e).corrected ≡ true
unfolding fate
corrected_by [] d e m k p = elim m [ ]
corrected_by (r ∷ h) d e (newest q) k p =
    let hitting : names r e ≡ true = subst (λ y. names y e ≡ true) (sym q) (names_points d e (ap naming k) p) in
    let corrects : kind_of r.kind ≡ kind.Correction = subst (λ (y : Raw). kind_of y.kind ≡ kind.Correction) (sym q) k in
    rw (hitting, corrects)
corrected_by (r ∷ h) d e (older t) k p =
    let ih = corrected_by h d e t k p in fate_cases (λ f. f.corrected ≡ true) r h e ih ih ih refl ih

pub once : {h : History} → Valid h → Each Once h
once empty = tt
once (joins {r = c} {h} v j) = (λ d m w. go (role h c j) d m w, once v)
  where
    go : Role h c → (d : Raw) → In d h → Again c d → ⊥
    go (alone n) d m w = true≢false (sym (ap naming w.first) ∙ n)
    go (upon n i x f s) d m w =
        let p = pointed c x (hit v c i x f).aimed in
        let same : Pointed d x = record { account = p.account ∙ w.account; node = p.node ∙ w.node; serial = p.serial ∙ w.serial } in
        let unmarked = rw (rw w.first at s) at (accepts_upon h c j n i x f).uncorrected in
        true≢false (sym (corrected_by h d x m w.second (points_at_lem d x same)) ∙ unmarked)
