-- Relabelling: when it refuses, and that it writes n elements. Main result: lawful_relabel.
use Rattle.std.specs.Prelude.{List, [], ◌≢◌, ◌⊎◌, ◌≡◌, refl, ℕ, length}
use Rattle.std.proofs.Common.{inl, inr, ap, ◌∙◌, arith}
use Rattle.std.proofs.Math.Option.{Option}
use Rattle.rules.specs.declared.Kind.TheVariants.{InputLength, Permutation}
use Rattle.rules.specs.Tree.{tree_of}
use Rattle.rules.specs.Order.{vector_of}
use Rattle.rules.specs.Shuffle.{renamed, permutation_fault}
use Rattle.rules.specs.Answer.{number_of, Made, made, refuses}
use Rattle.rules.specs.Promise.{list}
use Rattle.rules.specs.Guards.{refuse_at, refuse_length, from_vector}
use Rattle.rules.specs.CallRelabel.{relabel, relabel_call}
use Rattle.searching.specs.First.{FirstFound, first_at, nowhere}
use Rattle.searching.proofs.First.{found_first}
use Rattle.accepting.proofs.Guards.{wrong_length, right_length, refuse_at_lem}
use Rattle.demands.specs.Conditions.{CountRight, WithinBounds, Unfit}
use Rattle.demands.proofs.FirstPlace.{unfit_found}
use Rattle.demands.proofs.Cases.{equal_cases}
use Rattle.demands.specs.Law.{OfInput, Settled, Lawful}
use Rattle.demands.proofs.Law.{lawful_made}
use Rattle.demands.specs.LawVector.{VectorRefused}
use Rattle.demands.proofs.LawVector.{vector_given, vector_passes, vector_cases, vector_of_input, vector_valid}
use Rattle.demands.proofs.Long.{renamed_long}
use Rattle.demands.specs.LawRelabel.{RelabelRefused, relabel_vector, relabel_2, relabel_11}

-- what is made is settled by these
settled_relabel : (v p : List ℕ) → Settled length 3 (RelabelRefused v p) (length v) (relabel v p)
unfolding relabel refuse_at number_of
settled_relabel v p = record {
  of_input = kinds;
  given = refused_so;
  total = go (vector_cases v) (equal_cases (length p) (length v)) (unfit_found (length v) p);
}
  where
    last : Made
    last = made (vector_of (renamed p (tree_of v)))

    kinds : (k i : ℕ) → RelabelRefused v p k i → OfInput 3 k
    kinds k i (relabel_vector r) = vector_of_input v k i r
    kinds k i (relabel_2 c h l) = (InputLength, refl, omega arith)
    kinds k i (relabel_11 c h l f) = (Permutation, refl, omega arith)

    refused_so : (k i : ℕ) → RelabelRefused v p k i
        → from_vector v (refuse_length (length v) (length p) (refuse_at 11 (permutation_fault (length v) 0 [] p) last)) ≡ refuses k i
    refused_so k i (relabel_vector r) = vector_given v _ k i r
    refused_so k i (relabel_2 c h l) = vector_passes v _ c h ∙ wrong_length (length v) (length p) _ l
    refused_so k i (relabel_11 {i = j} c h l f) =
        vector_passes v _ c h ∙ right_length (length v) (length p) _ l
        ∙ refuse_at_lem 11 j (permutation_fault (length v) 0 [] p) last
        (found_first (unfit_found (length v) p) j f (λ w. refl))

    go : ((k : ℕ) × (i : ℕ) × VectorRefused v k i) ⊎ (CountRight (length v) × WithinBounds v)
        → (length p ≢ length v) ⊎ (length p ≡ length v)
        → FirstFound (Unfit (length v) p) (λ i w. i) (permutation_fault (length v) 0 [] p)
        → ((k : ℕ) × (i : ℕ) × RelabelRefused v p k i)
        ⊎ ((xs : List ℕ) × (from_vector v (refuse_length (length v) (length p) (refuse_at 11 (permutation_fault (length v) 0 [] p) last)) ≡ made xs) × (length xs ≡ length v))
    go (inl r) l u = inl (r.0, r.1, relabel_vector r.2)
    go (inr h) (inl l) u = inl (2, length v, relabel_2 h.0 h.1 l)
    go (inr h) (inr l) (first_at i f e) = inl (11, i, relabel_11 h.0 h.1 l f)
    go (inr h) (inr l) (nowhere e right) = inr (
      vector_of (renamed p (tree_of v)),
      vector_passes v _ h.0 h.1 ∙ right_length (length v) (length p) _ l ∙ ap (λ (o : Option ℕ). refuse_at 11 o last) e,
      renamed_long p v (vector_valid v h.0 h.1),
    )

pub lawful_relabel : (v p : List ℕ) → Lawful (relabel_call v p) (RelabelRefused v p) (length v)
lawful_relabel v p = lawful_made list (relabel v p) (RelabelRefused v p) (length v) (settled_relabel v p)
