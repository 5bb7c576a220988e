-- The places of the kept signs in the bytes as sent, and what stands before them. Main definitions: place_of, There, PlaceOf.
use Rattle.std.specs.Prelude.{◌≡◌, true, false, cond, List, [], ◌∷◌, ℕ, zero, suc, ◌<◌, length, take}
use Rattle.rules.specs.Sent.{blank, signs}
use Rattle.blanks.specs.Marks.{Last, parted_from}
use Rattle.blanks.specs.Kept.{kept_from}

-- the place in the bytes as sent of sign number k; their length where there are no more signs
unfoldable pub place_of : List ℕ → ℕ → ℕ
unfolding blank
place_of [] k = 0
place_of (c ∷ s) zero = cond (blank c) (suc (place_of s zero)) 0
place_of (c ∷ s) (suc k) = suc (place_of s (cond (blank c) (suc k) k))

-- What stands at place p: kept sign number k; the digit that parts a label, which is not kept; or nothing, at the end.
pub data There (l : Last) (s : List ℕ) (k p : ℕ) : Type 0 where
  sign : p < length s → k < length (kept_from l s) → signs (take (suc p) s) ≡ take (suc k) (kept_from l s) → There l s k p
  parting : p < length s → k ≡ length (kept_from l s) → parted_from l (take (suc p) s) ≡ true → There l s k p
  end : p ≡ length s → k ≡ length (kept_from l s) → parted_from l s ≡ false → There l s k p

-- before place p stand k kept signs, and no label is parted
pub record PlaceOf (l : Last) (s : List ℕ) (k p : ℕ) : Type 0 where
  pub before : signs (take p s) ≡ take k (kept_from l s)
  pub whole : parted_from l (take p s) ≡ false
  pub there : There l s k p
