-- One element leaves a list and another goes in: what a store after a move by one place makes of a list.
-- Main definitions: ins, moved, Down, Up. Main results: ins_take, drop_moved, window_down, window_up, and start, next, end of the two loops.
use Rattle.std.specs.Prelude.{◌≡◌, refl, Bool, true, false, List, [], ◌∷◌, ◌++◌, ℕ, zero, suc, ◌+◌, ◌-◌, ◌≤◌, ◌<◌, ltb, length, take, get_or, set}
use Rattle.std.proofs.Common.{sym, ap, ◌∙◌, zero-add, add-one, arith, length-append, length-take, length-drop, length-set, ext_get_or, take-take, drop-drop, ltb-true, ltb-false}
use Rattle.std.proofs.Math.ListN.{drop}
use Rattle.std.proofs.lemmas.List.{take-append-le}
use Rattle.lists.specs.Front.{mix, mix_step, mix_down, mix_length, mix_above, mix_below}

-- a at position s of l
unfoldable pub ins : {A : Type 0} → ℕ → A → List A → List A
ins s a l = take s l ++ (a ∷ drop s l)

-- the element at e leaves l, and then a goes in at s
unfoldable pub moved : ℕ → ℕ → ℕ → List ℕ → List ℕ
unfolding ins
moved e s a l = ins s a (take e l ++ drop (suc e) l)

pub ins_take : {A : Type 0} (s n : ℕ) (a : A) (l : List A) → s ≤ n → take (n + 1) (ins s a l) ≡ ins s a (take n l)
unfolding ins
ins_take zero n a l h = rw add-one
ins_take (suc s) zero a l h = absurd (omega arith)
ins_take (suc s) (suc n) a [] h = rw add-one
ins_take (suc s) (suc n) a (x ∷ l) h = rw add-one (ap (λ r. x ∷ r) (rw add-one at (ins_take s n a l (omega arith))))

pub ins_length : {A : Type 0} (s : ℕ) (a : A) (l : List A) → s ≤ length l → length (ins s a l) ≡ suc (length l)
unfolding ins
ins_length zero a l h = refl
ins_length (suc s) a [] h = absurd (omega arith)
ins_length (suc s) a (x ∷ l) h = ap suc (ins_length s a l (omega arith))

pub ins_before : (s k a : ℕ) (l : List ℕ) → k < s → s ≤ length l → get_or (ins s a l) k 0 ≡ get_or l k 0
unfolding ins
ins_before zero k a l h g = absurd (omega arith)
ins_before (suc s) k a [] h g = absurd (omega arith)
ins_before (suc s) zero a (x ∷ l) h g = refl
ins_before (suc s) (suc k) a (x ∷ l) h g = ins_before s k a l (omega arith) (omega arith)

ins_here : (s a : ℕ) (l : List ℕ) → s ≤ length l → get_or (ins s a l) s 0 ≡ a
unfolding ins
ins_here zero a l h = refl
ins_here (suc s) a [] h = absurd (omega arith)
ins_here (suc s) a (x ∷ l) h = ins_here s a l (omega arith)

ins_behind : (s k a : ℕ) (l : List ℕ) → s ≤ k → s ≤ length l → get_or (ins s a l) (suc k) 0 ≡ get_or l k 0
unfolding ins
ins_behind zero k a l h g = refl
ins_behind (suc s) zero a l h g = absurd (omega arith)
ins_behind (suc s) (suc k) a [] h g = absurd (omega arith)
ins_behind (suc s) (suc k) a (x ∷ l) h g = ins_behind s k a l (omega arith) (omega arith)

-- l without the element at e
cut_length : (e : ℕ) (l : List ℕ) → e < length l → suc (length (take e l ++ drop (suc e) l)) ≡ length l
cut_length e l h = simp (length-append, length-take, length-drop) (omega arith)

cut_before : (e k : ℕ) (l : List ℕ) → k < e → get_or (take e l ++ drop (suc e) l) k 0 ≡ get_or l k 0
cut_before zero k l h = absurd (omega arith)
cut_before (suc e) k [] h = refl
cut_before (suc e) zero (x ∷ l) h = refl
cut_before (suc e) (suc k) (x ∷ l) h = cut_before e k l (omega arith)

cut_behind : (e k : ℕ) (l : List ℕ) → e ≤ k → e < length l → get_or (take e l ++ drop (suc e) l) k 0 ≡ get_or l (suc k) 0
cut_behind e k [] h g = absurd (omega arith)
cut_behind zero k (x ∷ l) h g = refl
cut_behind (suc e) zero (x ∷ l) h g = absurd (omega arith)
cut_behind (suc e) (suc k) (x ∷ l) h g = cut_behind e k l (omega arith) (omega arith)

module _ (e s a : ℕ) (l : List ℕ) (fe : e < length l) (fs : s < length l) where
  cut_fits : s ≤ length (take e l ++ drop (suc e) l)
  cut_fits = omega (arith, cut_length e l fe)

  pub moved_length : length (moved e s a l) ≡ length l
  unfolding moved
  moved_length = ins_length s a (take e l ++ drop (suc e) l) cut_fits ∙ cut_length e l fe

  pub moved_here : get_or (moved e s a l) s 0 ≡ a
  unfolding moved
  moved_here = ins_here s a (take e l ++ drop (suc e) l) cut_fits

  -- before both and behind both places nothing changes
  pub moved_before : (k : ℕ) → k < e → k < s → get_or (moved e s a l) k 0 ≡ get_or l k 0
  unfolding moved
  moved_before k h g = ins_before s k a (take e l ++ drop (suc e) l) g cut_fits ∙ cut_before e k l h

  pub moved_behind : (k : ℕ) → e ≤ k → s ≤ k → get_or (moved e s a l) (suc k) 0 ≡ get_or l (suc k) 0
  unfolding moved
  moved_behind k h g = ins_behind s k a (take e l ++ drop (suc e) l) g cut_fits ∙ cut_behind e k l h fe

  -- between them the elements move by one
  pub moved_down : (k : ℕ) → e ≤ k → k < s → get_or (moved e s a l) k 0 ≡ get_or l (suc k) 0
  unfolding moved
  moved_down k h g = ins_before s k a (take e l ++ drop (suc e) l) g cut_fits ∙ cut_behind e k l h fe

  pub moved_up : (k : ℕ) → s ≤ k → k < e → get_or (moved e s a l) (suc k) 0 ≡ get_or l k 0
  unfolding moved
  moved_up k h g = ins_behind s k a (take e l ++ drop (suc e) l) h cut_fits ∙ cut_before e k l g

-- two lists of one length that agree from k on, or before k
agree_behind : (b o : List ℕ) (k : ℕ) → k ≤ length b → length b ≡ length o → ((t : ℕ) → k ≤ t → get_or o t 0 ≡ get_or b t 0) → mix k b o ≡ b
agree_behind b o k h e f = ext_get_or 0 (mix k b o) b (mix_length b o k h (omega arith) ∙ sym e) (λ t l. go t (ltb t k) refl)
  where
    go : (t : ℕ) (q : Bool) → ltb t k ≡ q → get_or (mix k b o) t 0 ≡ get_or b t 0
    go t true q = mix_below b o k t h (ltb-true t k q)
    go t false q = mix_above b o k t h (ltb-false t k q) ∙ f t (ltb-false t k q)

agree_before : (b o : List ℕ) (k : ℕ) → k ≤ length b → length b ≡ length o → ((t : ℕ) → t < k → get_or b t 0 ≡ get_or o t 0) → mix k b o ≡ o
agree_before b o k h e f = ext_get_or 0 (mix k b o) o (mix_length b o k h (omega arith)) (λ t l. go t (ltb t k) refl)
  where
    go : (t : ℕ) (q : Bool) → ltb t k ≡ q → get_or (mix k b o) t 0 ≡ get_or o t 0
    go t true q = mix_below b o k t h (ltb-true t k q) ∙ f t (ltb-true t k q)
    go t false q = mix_above b o k t h (ltb-false t k q)

-- the loop that moves down: what lies before k is final
pub record Down (xs₀ : List ℕ) (e s a : ℕ) (xs : List ℕ) (k : ℕ) : Type 0 where
  pub fit : s < length xs₀
  pub low : e ≤ k
  pub high : k ≤ s
  pub same : length xs ≡ length xs₀
  pub mixed : xs ≡ mix k (moved e s a xs₀) xs₀

pub down_start : {xs₀ : List ℕ} {e s a : ℕ} → e ≤ s → s < length xs₀ → Down xs₀ e s a xs₀ e
down_start {xs₀} {e} {s} {a} h g =
    let l = moved_length e s a xs₀ (omega arith) g in
    record {
      fit = g;
      low = omega arith;
      high = h;
      same = refl;
      mixed = sym (agree_before (moved e s a xs₀) xs₀ e (omega arith) l (λ t m. moved_before e s a xs₀ (omega arith) g t m (omega arith)));
    }

pub down_next : {xs₀ : List ℕ} {e s a : ℕ} {xs : List ℕ} {k : ℕ} → Down xs₀ e s a xs k → k < s → Down xs₀ e s a (set xs k (get_or xs (k + 1) 0)) (k + 1)
down_next {xs₀} {e} {s} {a} {xs} {k} D h =
    let f = D.fit in
    let l = moved_length e s a xs₀ (omega arith) D.fit in
    let v : get_or xs (k + 1) 0 ≡ get_or (moved e s a xs₀) k 0 =
    rw D.mixed
    (mix_above (moved e s a xs₀) xs₀ k (k + 1) (omega arith) (omega arith)
    ∙ rw add-one (sym (moved_down e s a xs₀ (omega arith) D.fit k D.low h))) in
    record {
      fit = D.fit;
      low = omega arith;
      high = omega arith;
      same = length-set xs k _ ∙ D.same;
      mixed = rw (v, D.mixed) (mix_step (moved e s a xs₀) xs₀ k (omega arith) (omega arith));
    }

pub down_end : {xs₀ : List ℕ} {e s a : ℕ} {xs : List ℕ} {k : ℕ} → Down xs₀ e s a xs k → s ≤ k → set xs s a ≡ moved e s a xs₀
down_end {xs₀} {e} {s} {a} {xs} {k} D h =
    let f = D.fit in
    let l = moved_length e s a xs₀ (omega arith) D.fit in
    let q : k ≡ s = omega arith in
    rw (D.mixed, q)
    (ap (set (mix s (moved e s a xs₀) xs₀) s) (sym (moved_here e s a xs₀ (omega arith) D.fit))
    ∙ mix_step (moved e s a xs₀) xs₀ s (omega arith) (omega arith)
    ∙ agree_behind (moved e s a xs₀) xs₀ (s + 1) (omega arith) l
    (λ t m. let z : t ≡ suc (t - 1) = omega arith in rw z (sym (moved_behind e s a xs₀ (omega arith) D.fit (t - 1) (omega arith) (omega arith)))))

-- the loop that moves up: what lies behind k is final
pub record Up (xs₀ : List ℕ) (e s a : ℕ) (xs : List ℕ) (k : ℕ) : Type 0 where
  pub fit : e < length xs₀
  pub low : s ≤ k
  pub high : k ≤ e
  pub same : length xs ≡ length xs₀
  pub mixed : xs ≡ mix (k + 1) xs₀ (moved e s a xs₀)

pub up_start : {xs₀ : List ℕ} {e s a : ℕ} → s ≤ e → e < length xs₀ → Up xs₀ e s a xs₀ e
up_start {xs₀} {e} {s} {a} h g =
    let l = moved_length e s a xs₀ g (omega arith) in
    record {
      fit = g;
      low = h;
      high = omega arith;
      same = refl;
      mixed =
          sym (agree_behind xs₀ (moved e s a xs₀) (e + 1) (omega arith) (sym l)
          (λ t m. let z : t ≡ suc (t - 1) = omega arith in rw z (moved_behind e s a xs₀ g (omega arith) (t - 1) (omega arith) (omega arith))));
    }

pub up_next : {xs₀ : List ℕ} {e s a : ℕ} {xs : List ℕ} {k : ℕ} → Up xs₀ e s a xs k → s < k → Up xs₀ e s a (set xs k (get_or xs (k - 1) 0)) (k - 1)
up_next {xs₀} {e} {s} {a} {xs} {k} U h =
    let f = U.fit in
    let l = moved_length e s a xs₀ U.fit (omega arith) in
    let z : suc (k - 1) ≡ k = omega arith in
    let y : k - 1 + 1 ≡ k = omega arith in
    let v : get_or xs (k - 1) 0 ≡ get_or (moved e s a xs₀) k 0 =
    rw U.mixed
    (mix_below xs₀ (moved e s a xs₀) (k + 1) (k - 1) (omega arith) (omega arith)
    ∙ sym (rw z at (moved_up e s a xs₀ U.fit (omega arith) (k - 1) (omega arith) (omega arith)))) in
    record {
      fit = U.fit;
      low = omega arith;
      high = omega arith;
      same = length-set xs k _ ∙ U.same;
      mixed = rw (v, U.mixed, y) (mix_down xs₀ (moved e s a xs₀) k (omega arith) (omega arith));
    }

pub up_end : {xs₀ : List ℕ} {e s a : ℕ} {xs : List ℕ} {k : ℕ} → Up xs₀ e s a xs k → k ≤ s → set xs s a ≡ moved e s a xs₀
up_end {xs₀} {e} {s} {a} {xs} {k} U h =
    let f = U.fit in
    let l = moved_length e s a xs₀ U.fit (omega arith) in
    let q : k ≡ s = omega arith in
    rw (U.mixed, q)
    (ap (set (mix (s + 1) xs₀ (moved e s a xs₀)) s) (sym (moved_here e s a xs₀ U.fit (omega arith)))
    ∙ mix_down xs₀ (moved e s a xs₀) s (omega arith) (omega arith)
    ∙ agree_before xs₀ (moved e s a xs₀) s (omega arith) (sym l)
    (λ t m. sym (moved_before e s a xs₀ U.fit (omega arith) t (omega arith) m)))

-- what stands before both places has no part in it
pub drop_moved : (lo e s a : ℕ) (l : List ℕ) → lo + e < length l → drop lo (moved (lo + e) (lo + s) a l) ≡ moved e s a (drop lo l)
unfolding moved ins
drop_moved lo e s a [] h = absurd (omega arith)
drop_moved zero e s a (x ∷ l) h = rw (zero-add e, zero-add s)
drop_moved (suc lo) e s a (x ∷ l) h =
    let p : suc lo + e ≡ suc (lo + e) = omega arith in
    let q : suc lo + s ≡ suc (lo + s) = omega arith in
    rw (p, q) (drop_moved lo e s a l (omega arith))

-- what stands before an inserted element has no part in it
drop_ins : (d s a : ℕ) (l : List ℕ) → d ≤ length l → drop d (ins (d + s) a l) ≡ ins s a (drop d l)
unfolding ins
drop_ins zero s a l h = rw (zero-add s)
drop_ins (suc d) s a [] h = absurd (omega arith)
drop_ins (suc d) s a (x ∷ l) h = let q : suc d + s ≡ suc (d + s) = omega arith in rw q (drop_ins d s a l (omega arith))

moved_first : (s a : ℕ) (l : List ℕ) → moved 0 s a l ≡ ins s a (drop 1 l)
unfolding moved
moved_first s a l = refl

window_from : (e d s a : ℕ) (l : List ℕ) → e + d < length l → drop (e + d) (moved e (e + (d + s)) a l) ≡ ins s a (drop (e + 1 + d) l)
window_from e d s a l h =
    let p : e + 0 ≡ e = omega arith in
    sym (drop-drop d e (moved e (e + (d + s)) a l))
    ∙ ap (drop d)
    (rw p at (drop_moved e 0 (d + s) a l (omega arith)) ∙ moved_first (d + s) a (drop e l) ∙ ap (ins (d + s) a) (drop-drop 1 e l))
    ∙ drop_ins d s a (drop (e + 1) l) (omega (arith, length-drop (e + 1) l))
    ∙ ap (ins s a) (drop-drop d (e + 1) l)

-- The m names that stood from lo on: one more of them, before number s, from one place further down on. More than these may have moved.
pub window_down : (lo m s a e : ℕ) (l : List ℕ) → 1 ≤ lo → e ≤ lo - 1 → s ≤ m → lo + m < length l → take (m + 1) (drop (lo - 1) (moved e (lo - 1 + s) a l)) ≡ ins s a (take m (drop lo l))
window_down lo m s a e l h k g f =
    let p : e + (lo - 1 - e + s) ≡ lo - 1 + s = omega arith in
    let q : e + (lo - 1 - e) ≡ lo - 1 = omega arith in
    let r : e + 1 + (lo - 1 - e) ≡ lo = omega arith in
    ap (take (m + 1)) (rw (p, q, r) at (window_from e (lo - 1 - e) s a l (omega arith))) ∙ ins_take s m a (drop lo l) g

-- and from the same place on
pub window_up : (lo m s a e : ℕ) (l : List ℕ) → s ≤ m → lo + m ≤ e → e < length l → take (m + 1) (drop lo (moved e (lo + s) a l)) ≡ ins s a (take m (drop lo l))
unfolding moved
window_up lo m s a e l g k f =
    let w = drop lo l in
    let q : lo + (e - lo) ≡ e = omega arith in
    ap (take (m + 1)) (rw q at (drop_moved lo (e - lo) s a l (omega arith)))
    ∙ ins_take s m a (take (e - lo) w ++ drop (suc (e - lo)) w) g
    ∙ ap (ins s a)
    (take-append-le m (take (e - lo) w) (drop (suc (e - lo)) w) (omega (arith, length-take (e - lo) w, length-drop lo l))
    ∙ take-take m (e - lo) w (omega arith))
