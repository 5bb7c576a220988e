-- Fact 2 of 01, word for word, from a vector's merges cut where leaf i merges.
-- Main result: fact_two_in_words.
use Rattle.std.specs.Prelude.{List, ◌∷◌, ◌++◌, ◌≡◌, refl, ℕ, ◌≤◌, ◌<◌, length}
use Rattle.std.proofs.Common.{sym, ap, ◌∙◌, arith}
use Rattle.rules.specs.Vector.{Valid, entry}
use Rattle.rules.specs.Building.{Merge, merges}
use Rattle.rules.specs.Order.{earlier, entry_from, entry_at}
use Rattle.merging.specs.Once.{times, hit}
use Rattle.merging.proofs.Once.{times_append, hit_same}
use Rattle.building.proofs.InOrder.{merges_in_order}
use Rattle.building.proofs.Entry.{fact_two, entry_split}

-- "if s merges of two clusters both named below i came before i merged with cluster a, then v(i) = a when s = 0, else v(i) = i-1+s":
-- L came before, and s is how many merges of L are of two clusters both named below i
pub fact_two_in_words : (v : List ℕ) → Valid v → (i a : ℕ) (L R : List Merge) → 1 ≤ i → i < length v
    → merges v ≡ L ++ ((a, i) ∷ R) → entry v i ≡ entry_from i a (earlier i L)
unfolding times hit
fact_two_in_words v ok i a L R h l e =
    let o : times i (L ++ ((a, i) ∷ R)) ≡ 1 = ap (times i) (sym e) ∙ (merges_in_order v ok).each_once i h l in
    let z : times i L ≡ 0 = omega (arith, times_append i L ((a, i) ∷ R), hit_same i i refl) in
    fact_two v ok i l ∙ ap (λ P. entry_at P i) e ∙ entry_split i a L R z
