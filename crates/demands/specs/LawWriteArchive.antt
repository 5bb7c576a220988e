-- The writer of an archive: when it refuses, and that it writes the bytes that n and the number of vectors imply. Main definitions: Multiple,
-- NextMultiple, ArchiveRefused.
use Rattle.std.specs.Prelude.{List, ◌≡◌, ℕ, ◌*◌, ◌≤◌, ◌<◌, length}
use Rattle.rules.specs.First.{First}
use Rattle.demands.specs.Conditions.{CountWrong, CountRight}
use Rattle.demands.specs.FirstEntry.{AboveInTree}

-- whole vectors of n entries
abbrev pub Multiple : ℕ → ℕ → Type 0
Multiple n size = (k : ℕ) × (size ≡ k * n)

-- "next multiple of n": the first one above the length
abbrev pub NextMultiple : ℕ → ℕ → ℕ → Type 0
NextMultiple n size = First (λ p. (size < p) × Multiple n p)

-- "the writer gives 1, 21 for more than 2,097,151 times n entries (place 2097151), 2 when the list is not whole vectors (place: next multiple of n),
-- 4 (place: index in the list)"
pub data ArchiveRefused (n : ℕ) (xs : List ℕ) : ℕ → ℕ → Type 0 where
  archive_1 : CountWrong n → ArchiveRefused n xs 1 0
  archive_21 : CountRight n → 2097151 * n < length xs → ArchiveRefused n xs 21 2097151
  archive_2 : {p : ℕ} → CountRight n → length xs ≤ 2097151 * n → (Multiple n (length xs) → ⊥) → NextMultiple n (length xs) p → ArchiveRefused n xs 2 p
  archive_4 : {i : ℕ} → CountRight n → length xs ≤ 2097151 * n → Multiple n (length xs) → First (AboveInTree n xs) i → ArchiveRefused n xs 4 i
