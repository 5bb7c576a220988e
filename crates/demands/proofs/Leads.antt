-- Inputs of any notation: when one is accepted, and to which vector it leads; what the public calls then answer and write. Main results: done_leads,
-- leads_done.
use Rattle.std.specs.Prelude.{List, ◌++◌, ◌≡◌, refl, ℕ, ◌≤◌, length, drop}
use Rattle.std.proofs.Common.{arith}
use Rattle.rules.specs.declared.Answer.{Answer}
use Rattle.rules.specs.Answer.{done, reads}
use Rattle.demands.specs.Calls.{checks, call_from_table, from_newick, unpacks, reads_tree}
use Rattle.demands.proofs.Calls.{the}
use Rattle.demands.proofs.Keeping.{Lent, Kept}
use Rattle.demands.proofs.Law.{done_made, done_written}
use Rattle.demands.specs.Leads.{Input, vector, table, text, packed, archived, Leads, call_of}

-- the vector stands in the buffer, and behind it what the buffer held; a vector that is checked is the vector itself
abbrev pub Stands : (a : Input) → List ℕ → Lent (call_of a) → Lent (call_of a) → Type 0
Stands (vector v) w old new = w ≡ v
Stands (table n xs) w old new = new ≡ w ++ drop (length w) old
Stands (text s) w old new = new ≡ w ++ drop (length w) old
Stands (packed s) w old new = new ≡ w ++ drop (length w) old
Stands (archived s r) w old new = new ≡ w ++ drop (length w) old

-- where there is room for the vector
abbrev pub Fits : (a : Input) → List ℕ → Lent (call_of a) → Type 0
Fits (vector v) w old = Unit {0}
Fits (table n xs) w old = length w ≤ length old
Fits (text s) w old = length w ≤ length old
Fits (packed s) w old = length w ≤ length old
Fits (archived s r) w old = length w ≤ length old

-- an input to which the public call answers done is accepted, and leads to the vector that then stands in the buffer
pub done_leads : (a : Input) (old new : Lent (call_of a)) (r : Answer) → Kept (call_of a) old r new → (count : ℕ) → reads r ≡ done count
    → (w : List ℕ) × Leads a w × Stands a w old new
done_leads (vector v) old new r K k e = let g = done_made _ _ _ (the (checks v)).law old r new K k e in (v, (g.1, refl), refl)
done_leads (table n xs) old new r K k e = let g = done_made _ _ _ (the (call_from_table n xs)).law old r new K k e in (g.0, g.1, g.2)
done_leads (text s) old new r K k e = let g = done_made _ _ _ (the (from_newick s)).law old r new K k e in (g.0, g.1, g.2)
done_leads (packed s) old new r K k e = let g = done_made _ _ _ (the (unpacks s)).law old r new K k e in (g.0, g.1, g.2)
done_leads (archived s i) old new r K k e = let g = done_made _ _ _ (the (reads_tree s i)).law old r new K k e in (g.0, g.1, g.2)

-- and to an accepted input the public call answers done where there is room, and leaves the vector in the buffer
pub leads_done : (a : Input) (w : List ℕ) (old new : Lent (call_of a)) (r : Answer) → Leads a w → Kept (call_of a) old r new → Fits a w old
    → ((count : ℕ) × (reads r ≡ done count)) × Stands a w old new
leads_done (vector v) w old new r h K f =
    let g = done_written _ _ _ (the (checks v)).law tt h.0 old r new K (omega arith) in ((0, g.0), h.1)
leads_done (table n xs) w old new r h K f =
    let g = done_written _ _ _ (the (call_from_table n xs)).law w h old r new K f in ((length w, g.0), g.1)
leads_done (text s) w old new r h K f =
    let g = done_written _ _ _ (the (from_newick s)).law w h old r new K f in ((length w, g.0), g.1)
leads_done (packed s) w old new r h K f =
    let g = done_written _ _ _ (the (unpacks s)).law w h old r new K f in ((length w, g.0), g.1)
leads_done (archived s i) w old new r h K f =
    let g = done_written _ _ _ (the (reads_tree s i)).law w h old r new K f in ((length w, g.0), g.1)
