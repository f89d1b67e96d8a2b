-- Between functions: The clauses of a formula as one list, and where each of them begins in it. Rules of this project.
use Rattle.std.specs.Prelude.{ℕ, zero, suc, ◌≡◌, ◌≤◌, List, [], ◌∷◌, ℤ, length, slice_range}

-- where the first clause begins; without one, where all end
abbrev pub start_of : List ℕ → ℕ → ℕ
start_of [] end = end
start_of (start ∷ starts) end = start

-- where the clause at the place ends: where the next one begins, or where all end
abbrev pub end_at : List ℕ → ℕ → ℕ → ℕ
end_at [] place end = end
end_at (start ∷ starts) zero end = start_of starts end
end_at (start ∷ starts) (suc place) end = end_at starts place end

-- each clause begins at or before the next one, and where all end
abbrev pub Mounting : List ℕ → ℕ → Type 0
Mounting [] end = Unit {0}
Mounting (start ∷ starts) end = (start ≤ start_of starts end) × Mounting starts end

-- the clauses fill the list, one behind the other
abbrev pub Fills : List ℕ → ℕ → Type 0
Fills starts end = (start_of starts end ≡ 0) × Mounting starts end

-- the clauses that begin at these places of the list
abbrev pub clauses_from : List ℤ → List ℕ → List (List ℤ)
clauses_from all [] = []
clauses_from all (start ∷ starts) = slice_range all start (start_of starts (length all)) ∷ clauses_from all starts
