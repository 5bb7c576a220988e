-- The list f 0, f 1, .., f (n-1) and its entries.
-- Main results: length_listed, listed_at, entry_listed, listed_cong, listed_entries.
use Rattle.std.specs.Prelude.{◌≡◌, refl, List, [], ◌∷◌, ◌++◌, ℕ, zero, suc, ◌≤◌, ◌<◌, length, get_or, take}
use Rattle.std.proofs.Common.{sym, ap₂, ◌∙◌, arith, length-append, take-suc}
use Rattle.std.proofs.Math.ListN.{get_or-append}
use Rattle.std.proofs.lemmas.List.{get_or_at}
use Rattle.rules.specs.Vector.{entry}
use Rattle.rules.specs.Order.{listed}
use Rattle.basics.proofs.Cases.{by_eq}

pub length_listed : (n : ℕ) (f : ℕ → ℕ) → length (listed n f) ≡ n
unfolding listed
length_listed zero f = refl
length_listed (suc n) f = omega (arith, length-append (listed n f) (f n ∷ []), length_listed n f)

pub listed_at : (n : ℕ) (f : ℕ → ℕ) (i : ℕ) → i < n → get_or (listed n f) i 0 ≡ f i
unfolding listed
listed_at zero f i h = absurd (omega arith)
listed_at (suc n) f i h =
    by_eq i n
    (λ e. rw e (get_or_at (listed n f) (f n) [] 0 n (length_listed n f)))
    (λ d. get_or-append (listed n f) (f n ∷ []) 0 i (omega (arith, length_listed n f, d)) ∙ listed_at n f i (omega (arith, d)))

pub entry_listed : (n : ℕ) (f : ℕ → ℕ) (i : ℕ) → i < n → entry (listed n f) i ≡ f i
unfolding entry
entry_listed = listed_at

pub listed_cong : (n : ℕ) (f g : ℕ → ℕ) → ((i : ℕ) → i < n → f i ≡ g i) → listed n f ≡ listed n g
unfolding listed
listed_cong zero f g h = refl
listed_cong (suc n) f g h = ap₂ (λ (a : List ℕ) (x : ℕ). a ++ (x ∷ [])) (listed_cong n f g (λ i l. h i (omega arith))) (h n (omega arith))

pub listed_entries : (v : List ℕ) (n : ℕ) → n ≤ length v → listed n (entry v) ≡ take n v
unfolding listed entry
listed_entries v zero h = refl
listed_entries v (suc n) h = rw (listed_entries v n (omega arith)) (sym (take-suc v n 0 (omega arith)))
