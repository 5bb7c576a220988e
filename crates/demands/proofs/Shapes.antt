-- The buffers that are lent to a call, as lists: none, one or two. What is said of each buffer of each call is said over these. Main result:
-- same_entries.
use Rattle.std.specs.Prelude.{List, [], ◌∷◌, ◌≡◌, refl, ℕ, length, get_or, drop}
use Rattle.std.proofs.Common.{ap, ap₂, arith}
use Rattle.rules.specs.declared.Clade.{Clade}
use Rattle.rules.specs.Promise.{list}
use Rattle.clade_laws.proofs.Entries.{entry_equal}
use Rattle.demands.specs.Shapes.{Shape, flat, blank}

-- no number of an entry is left out
pub same_entries : (a b : List Clade) → flat a ≡ flat b → a ≡ b
unfolding flat
same_entries [] [] e = refl
same_entries [] (y ∷ b) e = absurd (omega (arith, ap length e))
same_entries (x ∷ a) [] e = absurd (omega (arith, ap length e))
same_entries (x ∷ a) (y ∷ b) e =
    ap₂ (λ (z : Clade) (l : List Clade). z ∷ l)
    (entry_equal x y (ap (λ (l : List ℕ). get_or l 0 0) e) (ap (λ (l : List ℕ). get_or l 1 0) e) (ap (λ (l : List ℕ). get_or l 2 0) e))
    (same_entries a b (ap (drop 3) e))

pub length_blank : (b : List ℕ) → length (blank b) ≡ length b
unfolding blank
length_blank [] = refl
length_blank (x ∷ b) = omega (arith, length_blank b)

abbrev pub entry_buffer : Shape (list {A = Clade})
entry_buffer = record { each = λ old. flat old ∷ []; lend = blank; fits = λ x b h. omega (arith, length_blank b) }
