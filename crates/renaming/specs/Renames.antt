-- The first children of a list renamed, the rest as it was.
-- Main definition: renamed_to. Main results: renamed_at, renamed_start, renamed_step, renamed_all, renamed_part.
use Rattle.std.specs.Prelude.{◌≡◌, refl, ℕ, suc, ◌+◌, ◌≤◌, ◌<◌, length, get_or, take, drop}
use Rattle.std.proofs.Common.{sym, ◌∙◌, add-one, arith, length-take, get_or-take, drop-cons}
use Rattle.std.proofs.Math.Path.{ap}
use mathlib.Core.List.{List, [], ◌∷◌, ◌++◌, map}
use Rattle.std.proofs.Math.ListN.{set, get_or-append, drop_of_length-le}
use Rattle.std.proofs.lemmas.List.{append-nil, get_or-map, length-map, get_or_at, take_all}
use Rattle.std.proofs.Math.Seq.{take-suc, set_at, append_snoc}
use Rattle.basics.proofs.Mapped.{map_append}
use Rattle.shuffle_laws.specs.Rows.{renamed_child}

-- the first k children with the leaves renamed by p, and the rest
unfoldable pub renamed_to : ℕ → List ℕ → ℕ → List ℕ → List ℕ
renamed_to n p k xs = map (renamed_child n p) (take k xs) ++ drop k xs

length_first : (n : ℕ) (p : List ℕ) (k : ℕ) (xs : List ℕ) → k ≤ length xs → length (map (renamed_child n p) (take k xs)) ≡ k
length_first n p k xs h = length-map (take k xs) (renamed_child n p) ∙ omega (arith, length-take k xs)

-- a child that is renamed
pub renamed_at : (n : ℕ) (p : List ℕ) (k : ℕ) (xs : List ℕ) (i : ℕ) → k ≤ length xs → i < k
    → get_or (renamed_to n p k xs) i 0 ≡ renamed_child n p (get_or xs i 0)
unfolding renamed_to
renamed_at n p k xs i h l =
    get_or-append (map (renamed_child n p) (take k xs)) (drop k xs) 0 i (omega (arith, length_first n p k xs h))
    ∙ get_or-map (renamed_child n p) (take k xs) i 0 0 (omega (arith, length-take k xs))
    ∙ ap (renamed_child n p) (get_or-take k xs i 0 l)

pub renamed_start : (n : ℕ) (p xs : List ℕ) → xs ≡ renamed_to n p 0 xs
unfolding renamed_to
renamed_start n p xs = refl

module _ (n : ℕ) (p xs : List ℕ) (k : ℕ) (h : k < length xs) where
  renamed_split : renamed_to n p k xs ≡ map (renamed_child n p) (take k xs) ++ (get_or xs k 0 ∷ drop (suc k) xs)
  unfolding renamed_to
  renamed_split = rw (drop-cons xs k 0 h)

  -- the next child is as it was
  pub renamed_other : get_or (renamed_to n p k xs) k 0 ≡ get_or xs k 0
  renamed_other =
      ap (λ (l : List ℕ). get_or l k 0) renamed_split
      ∙ get_or_at (map (renamed_child n p) (take k xs)) (get_or xs k 0) (drop (suc k) xs) 0 k (length_first n p k xs (omega arith))

  -- the next child is renamed
  pub renamed_next : set (renamed_to n p k xs) k (renamed_child n p (get_or xs k 0)) ≡ renamed_to n p (k + 1) xs
  unfolding renamed_to
  renamed_next =
      ap (λ (l : List ℕ). set l k (renamed_child n p (get_or xs k 0))) renamed_split
      ∙ set_at (map (renamed_child n p) (take k xs)) (get_or xs k 0) (drop (suc k) xs) (renamed_child n p (get_or xs k 0)) k (length_first n p k xs (omega arith))
      ∙ rw (add-one k, take-suc xs k 0 h, map_append (renamed_child n p) (take k xs) (get_or xs k 0 ∷ []))
      (sym (append_snoc (map (renamed_child n p) (take k xs)) (renamed_child n p (get_or xs k 0)) (drop (suc k) xs)))

module _ (n : ℕ) (p xs children : List ℕ) (t : ℕ) (same : children ≡ renamed_to n p t xs) where
  pub renamed_step : {c : ℕ} → t < length xs → c ≡ renamed_child n p (get_or children t 0) → set children t c ≡ renamed_to n p (t + 1) xs
  renamed_step h e = rw (e, same, renamed_other n p xs t h) (renamed_next n p xs t h)

  pub renamed_all : length xs ≤ t → children ≡ map (renamed_child n p) xs
  unfolding renamed_to
  renamed_all h = same ∙ rw (take_all t xs h, drop_of_length-le xs h) (append-nil (map (renamed_child n p) xs))

-- the first k children, renamed by themselves
pub renamed_part : (n : ℕ) (p : List ℕ) (k : ℕ) (xs : List ℕ) {part : List ℕ} → length p ≡ n → part ≡ map (renamed_child (length p) p) (take k xs)
    → part ++ drop k xs ≡ renamed_to n p k xs
unfolding renamed_to
renamed_part n p k xs l e = rw (e, l)
