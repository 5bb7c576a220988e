-- Bits on their way into bytes, and what it means to put a field behind them.
-- Main definitions: HoldsBits, Held, Begun, Room, Put, word_stored. Main results: held_nothing.
use Rattle.std.specs.Prelude.{◌≡◌, refl, List, [], ◌∷◌, ◌++◌, ℕ, ◌+◌, ◌*◌, ◌/◌, ◌%◌, ◌^◌, ◌≤◌, length, take, drop}
use Rattle.std.specs.Int.{w64, to_be_bytes}
use Rattle.std.proofs.Math.Nat.{mod-one}
use Rattle.rules.specs.Record.{Bits, field, number, bytes_of}
use Rattle.record_laws.specs.Number.{AreBits}
use Rattle.std.specs.Borrow.{MutBor}
use Rattle.bit_writer.specs.declared.Writer.{Writer}

-- The bits are in the buffer, zero bits following to the end of byte at, and those of that byte are the low bits of acc.
pub record HoldsBits (bits : Bits) (acc have at : ℕ) (buffer : List ℕ) : Type 0 where
  pub are : AreBits bits
  pub count : length bits ≡ 8 * at + have
  pub value : acc % 2 ^ have ≡ number (drop (8 * at) bits)
  pub stored : take (at + 1) buffer ≡ bytes_of (at + 1) bits

-- So are the bits that are pending.
abbrev pub Held : Bits → Writer → Type 0
Held bits w = HoldsBits bits w.acc (w.bits % 8) (w.bits / 8) w.out.now

-- No bits are held yet, in the buffer that was lent.
pub record Begun (out : MutBor (List ℕ)) (w : Writer) : Type 0 where
  pub same : w.out.ghost_name ≡ out.ghost_name
  pub now : w.out.now ≡ out.now
  pub none : w.bits ≡ 0

pub held_nothing : (w : Writer) → w.bits ≡ 0 → take 1 w.out.now ≡ 0 ∷ [] → Held [] w
unfolding AreBits number bytes_of
held_nothing w e zero = rw e (record { are = tt; count = refl; value = mod-one w.acc; stored = zero })

-- There is room for a word, in a buffer whose bits can be counted.
abbrev pub Room : Writer → Type 0
Room w = (w.bits / 8 + 8 ≤ length w.out.now) × (length w.out.now ≤ 65536)

-- One field more is held in the same buffer, whatever bits were held before it.
pub record Put (w : Writer) (width x : ℕ) (r : Writer) : Type 0 where
  pub same : r.out.ghost_name ≡ w.out.ghost_name
  pub long : length r.out.now ≡ length w.out.now
  pub count : r.bits ≡ w.bits + width
  pub held : (bits : Bits) → Held bits w → Held (bits ++ field width x) r

-- eight bytes of a word in a buffer
unfoldable pub word_stored : List ℕ → ℕ → ℕ → List ℕ
word_stored s at w = take at s ++ to_be_bytes w64 w ++ drop (at + 8) s
