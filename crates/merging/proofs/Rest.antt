-- Merges R that come after the merges Q.
-- Main results: rest_there, there_rest, good_rest, rising_rest, rising_first, greedy_rest.
use Rattle.std.specs.Prelude.{◌≡◌, refl, true, List, [], ◌∷◌, ◌++◌, ℕ, eqb}
use Rattle.std.proofs.Common.{sym, ap, ◌∙◌, ⊎_elim, true≢false, arith, eqb-true}
use Rattle.std.proofs.lemmas.Bool.{eqb-false}
use Rattle.rules.specs.Building.{Merge}
use Rattle.basics.proofs.Bools.{or_cases, or_left}
use Rattle.merging.specs.Once.{times}
use Rattle.merging.proofs.Once.{misses, hit_other}
use Rattle.merging.specs.Greedy.{Greedy}
use Rattle.merging.specs.Named.{named, Good, Rising}

named_more : (Q R : List Merge) (x : ℕ) → named R x ≡ true → named (Q ++ R) x ≡ true
unfolding named
named_more [] R x h = h
named_more (q ∷ Q) R x h = or_left (named (Q ++ R) x) (eqb q.1 x) (named_more Q R x h)

-- a name of the rest has not been merged away
pub rest_there : (Q R : List Merge) → Good (Q ++ R) → (x : ℕ) → named R x ≡ true → times x Q ≡ 0
unfolding Good times
rest_there [] R G x h = refl
rest_there (q ∷ Q) R G x h =
    omega (arith, rest_there Q R G.2 x h, hit_other x q.1 (λ e. true≢false (sym (named_more Q R x h) ∙ ap (named (Q ++ R)) e ∙ G.1)))

-- a name that has not been merged away is one of the rest
pub there_rest : (Q R : List Merge) (x : ℕ) → named (Q ++ R) x ≡ true → times x Q ≡ 0 → named R x ≡ true
unfolding named
there_rest [] R x h z = h
there_rest (q ∷ Q) R x h z =
    let k = misses x q Q z in
    ⊎_elim (λ e. there_rest Q R x e k.1) (λ e. absurd (eqb-false x q.1 k.0 (sym (eqb-true q.1 x e)))) (or_cases (named (Q ++ R) x) (eqb q.1 x) h)

pub good_rest : (Q R : List Merge) → Good (Q ++ R) → Good R
unfolding Good
good_rest [] R G = G
good_rest (q ∷ Q) R G = good_rest Q R G.2

pub rising_rest : (Q R : List Merge) → Rising (Q ++ R) → Rising R
unfolding Rising
rising_rest [] R g = g
rising_rest (q ∷ Q) R g = rising_rest Q R g.1

pub rising_first : (Q R : List Merge) → Rising (Q ++ R) → Rising Q
unfolding Rising
rising_first [] R g = tt
rising_first (q ∷ Q) R g = (g.0, rising_first Q R g.1)

pub greedy_rest : (Q R : List Merge) → Greedy (Q ++ R) → Greedy R
unfolding Greedy
greedy_rest [] R H = H
greedy_rest (q ∷ Q) R H = greedy_rest Q R H.1
