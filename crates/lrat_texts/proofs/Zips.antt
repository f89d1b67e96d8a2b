-- Two lists, place by place.
use Rattle.std.proofs.Common.{◌≡◌, List, [], ◌∷◌, ◌++◌, refl, ap}
use Rattle.std.specs.List.{AllByRecursion, AllZip}

pub zip_append : {A B : Type 0} (R : A → B → Type 0) (xs more : List A) (ys others : List B) → AllZip R xs ys
    → AllZip R more others → AllZip R (xs ++ more) (ys ++ others)
zip_append R [] more [] others z k = k
zip_append R [] more (y ∷ ys) others z k = absurd z
zip_append R (x ∷ xs) more [] others z k = absurd z
zip_append R (x ∷ xs) more (y ∷ ys) others z k = (z.0, zip_append R xs more ys others z.1 k)

-- the second list in two parts, as long as those of the first one
pub record Parted {A B : Type 0} (R : A → B → Type 0) (xs more : List A) (all : List B) : Type 0 where
  pub front : List B
  pub rest : List B
  pub all_is : all ≡ front ++ rest
  pub front_zips : AllZip R xs front
  pub rest_zips : AllZip R more rest

pub zip_parts : {A B : Type 0} (R : A → B → Type 0) (xs more : List A) (all : List B) → AllZip R (xs ++ more) all
    → Parted R xs more all
zip_parts R [] more all z = record { front = []; rest = all; all_is = refl; front_zips = tt; rest_zips = z }
zip_parts R (x ∷ xs) more [] z = absurd z
zip_parts R (x ∷ xs) more (y ∷ ys) z =
    let p = zip_parts R xs more ys z.1 in record {
      front = y ∷ p.front;
      rest = p.rest;
      all_is = ap (λ l. y ∷ l) p.all_is;
      front_zips = (z.0, p.front_zips);
      rest_zips = p.rest_zips;
    }

pub zip_map : {A B : Type 0} (R S : A → B → Type 0) (f : (x : A) (y : B) → R x y → S x y) (xs : List A) (ys : List B)
    → AllZip R xs ys → AllZip S xs ys
zip_map R S f [] [] z = tt
zip_map R S f [] (y ∷ ys) z = absurd z
zip_map R S f (x ∷ xs) [] z = absurd z
zip_map R S f (x ∷ xs) (y ∷ ys) z = (f x y z.0, zip_map R S f xs ys z.1)

pub zip_also : {A B : Type 0} (R : A → B → Type 0) (P : B → Type 0) (xs : List A) (ys : List B) → AllZip R xs ys
    → AllByRecursion P ys → AllZip (λ x y. R x y × P y) xs ys
zip_also R P [] [] z p = tt
zip_also R P [] (y ∷ ys) z p = absurd z
zip_also R P (x ∷ xs) [] z p = absurd z
zip_also R P (x ∷ xs) (y ∷ ys) z p = ((z.0, p.0), zip_also R P xs ys z.1 p.1)

pub all_append : {A : Type 0} (P : A → Type 0) (xs ys : List A) → AllByRecursion P xs → AllByRecursion P ys
    → AllByRecursion P (xs ++ ys)
all_append P [] ys p q = q
all_append P (x ∷ xs) ys p q = (p.0, all_append P xs ys p.1 q)
