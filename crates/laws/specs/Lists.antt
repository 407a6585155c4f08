-- Rounding up, sums, largest and smallest values and choices over a list, and a list in a number of places.
use Rattle.std.specs.Prelude.{Bool, true, cond, ◌&&◌, List, [], ◌∷◌, ◌++◌, ℕ, zero, suc, ◌+◌, ◌-◌, ◌/◌, max, min, length, take, replicate}

-- ceil(x / n)
abbrev pub ceil : ℕ → ℕ → ℕ
ceil x n = (x + (n - 1)) / n

-- the sum of f over a list
unfoldable pub sum_of : {A : Type 0} → (A → ℕ) → List A → ℕ
sum_of f [] = 0
sum_of f (x ∷ xs) = f x + sum_of f xs

-- the largest f over a list, or 0 if the list is empty
unfoldable pub largest_of : {A : Type 0} → (A → ℕ) → List A → ℕ
largest_of f [] = 0
largest_of f (x ∷ xs) = max (f x) (largest_of f xs)

-- the smallest f over a list that begins with x
unfoldable pub smallest_of : {A : Type 0} → (A → ℕ) → A → List A → ℕ
smallest_of f x [] = f x
smallest_of f x (y ∷ ys) = min (f x) (smallest_of f y ys)

-- those of a list that pass a test, in order
unfoldable pub those : {A : Type 0} → (A → Bool) → List A → List A
those t [] = []
those t (x ∷ xs) = cond (t x) (x ∷ those t xs) (those t xs)

-- f 0, f 1, .., f (n - 1)
unfoldable pub rows : {A : Type 0} → ℕ → (ℕ → A) → List A
rows zero f = []
rows (suc n) f = rows n f ++ (f n ∷ [])

-- f 0 + f 1 + .. + f (n - 1)
unfoldable pub sum_to : (ℕ → ℕ) → ℕ → ℕ
sum_to f zero = 0
sum_to f (suc n) = sum_to f n + f n

-- every one of 0, 1, .., n - 1 passes the test
unfoldable pub every : ℕ → (ℕ → Bool) → Bool
every zero t = true
every (suc n) t = every n t && t n

-- a list in n places: its first n, and d where it has no more
unfoldable pub placed : {A : Type 0} → ℕ → A → List A → List A
placed n d xs = take n xs ++ replicate (n - length xs) d
