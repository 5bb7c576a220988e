-- The places of the kept signs in the bytes as sent, and what stands before them. Main results: place_blank, place_first, place_later, place_of_lem.
use Rattle.std.specs.Prelude.{◌≡◌, refl, Bool, true, false, List, [], ◌∷◌, ℕ, zero, suc, ◌≤◌, ◌<◌, length, take}
use Rattle.std.proofs.Common.{ap, sym, ◌∙◌, arith}
use Rattle.rules.specs.Sent.{blank, signs}
use Rattle.blanks.specs.Marks.{Last, next, parts, parted_from}
use Rattle.blanks.proofs.Marks.{signs_blank, signs_sign, parted_nil, parted_next, blank_parts}
use Rattle.blanks.specs.Kept.{kept_from}
use Rattle.blanks.proofs.Kept.{kept_blank, kept_sign, kept_parted}
use Rattle.blanks.specs.Places.{place_of, There, sign, parting, end, PlaceOf}

pub place_nil : (k : ℕ) → place_of [] k ≡ 0
unfolding place_of
place_nil k = refl

pub place_blank : (c : ℕ) (s : List ℕ) (k : ℕ) → blank c ≡ true → place_of (c ∷ s) k ≡ suc (place_of s k)
unfolding place_of
place_blank c s zero h = rw h
place_blank c s (suc k) h = rw h

pub place_first : (c : ℕ) (s : List ℕ) → blank c ≡ false → place_of (c ∷ s) 0 ≡ 0
unfolding place_of
place_first c s h = rw h

pub place_later : (c : ℕ) (s : List ℕ) (k : ℕ) → blank c ≡ false → place_of (c ∷ s) (suc k) ≡ suc (place_of s k)
unfolding place_of
place_later c s k h = rw h

-- one byte more in front, which parts no label: f is what it adds to the signs
module _ (l : Last) (c : ℕ) (s : List ℕ) (f : List ℕ → List ℕ) (passes : parts l c ≡ false) (adds : (x : List ℕ) → signs (c ∷ x) ≡ f (signs x)) where
  later_parted : (x : List ℕ) (b : Bool) → parted_from (next l c) x ≡ b → parted_from l (c ∷ x) ≡ b
  later_parted x b e = parted_next l c x ∙ rw passes e

  module _ (j k : ℕ) (takes : take k (kept_from l (c ∷ s)) ≡ f (take j (kept_from (next l c) s)))
      (takes-more : take (suc k) (kept_from l (c ∷ s)) ≡ f (take (suc j) (kept_from (next l c) s)))
      (below : j < length (kept_from (next l c) s) → k < length (kept_from l (c ∷ s)))
      (all : j ≡ length (kept_from (next l c) s) → k ≡ length (kept_from l (c ∷ s))) where
    there_later : (p : ℕ) → There (next l c) s j p → There l (c ∷ s) k (suc p)
    there_later p (sign h b e) = sign (omega arith) (below b) (adds (take (suc p) s) ∙ ap f e ∙ sym takes-more)
    there_later p (parting h b e) = parting (omega arith) (all b) (later_parted (take (suc p) s) true e)
    there_later p (end h b e) = end (ap suc h) (all b) (later_parted s false e)

    place_behind : (p : ℕ) → PlaceOf (next l c) s j p → PlaceOf l (c ∷ s) k (suc p)
    place_behind p P = record {
      before = adds (take p s) ∙ ap f P.before ∙ sym takes;
      whole = later_parted (take p s) false P.whole;
      there = there_later p P.there;
    }

place_at_blank : (l : Last) (c : ℕ) (s : List ℕ) (k p : ℕ) → blank c ≡ true → PlaceOf (next l c) s k p → PlaceOf l (c ∷ s) k (suc p)
place_at_blank l c s k p e P =
    let same : kept_from l (c ∷ s) ≡ kept_from (next l c) s = kept_blank l c s e in
    place_behind l c s (λ x. x) (blank_parts l c e) (λ x. signs_blank c x e) k k (ap (take k) same) (ap (take (suc k)) same)
    (λ h. rw same h) (λ h. rw same h) p P

place_at_sign : (l : Last) (c : ℕ) (s : List ℕ) (k p : ℕ) → blank c ≡ false → parts l c ≡ false → PlaceOf (next l c) s k p → PlaceOf l (c ∷ s) (suc k) (suc p)
place_at_sign l c s k p e q P =
    let same : kept_from l (c ∷ s) ≡ c ∷ kept_from (next l c) s = kept_sign l c s e q in
    place_behind l c s (λ x. c ∷ x) q (λ x. signs_sign c x e) k (suc k) (ap (take (suc k)) same) (ap (take (suc (suc k))) same)
    (λ h. rw same (omega arith)) (λ h. rw same (ap suc h)) p P

-- the place of a first sign is 0
place_here : (l : Last) (c : ℕ) (s : List ℕ) → blank c ≡ false → PlaceOf l (c ∷ s) 0 0
unfolding signs
place_here l c s e = record { before = refl; whole = parted_nil l; there = go (parts l c) refl }
  where
    go : (b : Bool) → parts l c ≡ b → There l (c ∷ s) 0 0
    go true q = parting (omega arith) (rw (kept_parted l c s q)) (parted_next l c [] ∙ rw q)
    go false q =
        let same : kept_from l (c ∷ s) ≡ c ∷ kept_from (next l c) s = kept_sign l c s e q in
        sign (omega arith) (rw same (omega arith)) (signs_sign c [] e ∙ sym (ap (take 1) same))

-- of nothing, nothing is kept
place_nothing : (l : Last) → PlaceOf l [] 0 (place_of [] 0)
unfolding kept_from signs place_of
place_nothing l = record { before = refl; whole = parted_nil l; there = end refl refl (parted_nil l) }

nothing_kept : (l : Last) (k : ℕ) → suc k ≤ length (kept_from l []) → ⊥
unfolding kept_from
nothing_kept l k h = omega arith

-- the place of each kept sign, and of what ends them
pub place_of_lem : (l : Last) (s : List ℕ) (k : ℕ) → k ≤ length (kept_from l s) → PlaceOf l s k (place_of s k)
place_of_lem l [] zero h = place_nothing l
place_of_lem l [] (suc k) h = absurd (nothing_kept l k h)
place_of_lem l (c ∷ s) k h = go (blank c) refl (parts l c) refl k h (λ j m. place_of_lem (next l c) s j m)
  where
    go : (b : Bool) → blank c ≡ b → (q : Bool) → parts l c ≡ q → (k : ℕ) → k ≤ length (kept_from l (c ∷ s))
        → ((j : ℕ) → j ≤ length (kept_from (next l c) s) → PlaceOf (next l c) s j (place_of s j)) → PlaceOf l (c ∷ s) k (place_of (c ∷ s) k)
    go true e q f k m P = rw (place_blank c s k e) (place_at_blank l c s k (place_of s k) e (P k (rw (kept_blank l c s e) at m)))
    go false e q f zero m P = rw (place_first c s e) (place_here l c s e)
    go false e true f (suc k) m P = absurd (omega (arith, ap length (kept_parted l c s f)))
    go false e false f (suc k) m P =
        let few : k ≤ length (kept_from (next l c) s) = omega (arith, ap length (kept_sign l c s e f)) in
        rw (place_later c s k e) (place_at_sign l c s k (place_of s k) e f (P k few))
