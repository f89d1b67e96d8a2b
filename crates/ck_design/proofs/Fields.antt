-- The notes of a channel's fields: their literals have the values of the bits that they name, and none is left out.
use Rattle.std.specs.Prelude.{◌≡◌, refl, ℕ, zero, suc, ◌+◌, ◌*◌, ◌/◌, ◌<◌, ◌≤◌, ◌==◌, Bool, true, false, not}
use Rattle.std.specs.Prelude.{if◌then◌else◌, pos, neg_ℤ}
use Rattle.std.specs.Prelude.{List, [], ◌∷◌, ◌++◌, length, map, Some, is_none, slice_get, slice_index_or}
use Rattle.std.specs.Int.{bit_at}
use Rattle.std.specs.List.{AllByRecursion, range_with_len}
use Rattle.std.proofs.Common.{ap, sym, ◌∙◌, arith, subst, append_assoc, true≢false}
use Rattle.std.proofs.lemmas.Bool.{ne_eqb}
use Rattle.fv_bits.specs.Bits.{bit}
use Rattle.fv_bits.proofs.SingleBits.{bit_at_part}
use Rattle.vl_size.specs.Size.{Values}
use Rattle.cnf_form.specs.Cnf.{literal_true}
use Rattle.bb_aig.specs.Graph.{is_negated, turned}
use Rattle.bb_clauses.specs.Models.{number_in, value_in}
use Rattle.rvfi_port.specs.declared.field.Field.{Field}
use Rattle.rvfi_port.specs.Fields.{field_name, field_width}
use Rattle.ck_design.specs.Retirements.{field_in, values_at}
use Rattle.ck_design.specs.declared.note.Note.{Note}
use Rattle.ck_design.specs.declared.note.NoteLiteral.{NoteLiteral}
use Rattle.ck_design.specs.declared.note.NoteLiteral.TheVariants as literal
use Rattle.ck_design.specs.Notes.{bit_notes, field_notes, literal_of}
use Rattle.ck_design.specs.Tight.{Agree, AgreeAt, IsNoted, note_value}
use Rattle.ck_design.proofs.Placed.{append, number_bit}

pub bit_is : (b c : Bool) (n : ℕ) → n ≡ bit c → b ≡ c → b ≡ (n == 1)
bit_is true true n e f = sym (ap (λ m. m == 1) e)
bit_is false false n e f = sym (ap (λ m. m == 1) e)
bit_is true false n e f = absurd (true≢false f)
bit_is false true n e f = absurd (true≢false (sym f))

-- the literal in clauses has the value of the graph's
signed_value : (v : ℕ → Bool) (negated : Bool) (n m : ℕ) → n ≡ suc m
    → literal_true v (if negated then neg_ℤ (pos n) else pos n) ≡ turned negated (if n == 0 then false else v n)
signed_value v true n m e =
    let next : m + 1 ≡ suc m = omega arith in
    ap (λ k. literal_true v (neg_ℤ (pos k))) e ∙ ap (λ k. not (v k)) next
    ∙ sym (ap (λ k. turned true (if k == 0 then false else v k)) e
    ∙ ap (λ b. not (if b then false else v (suc m))) (ne_eqb (suc m) 0 (λ z. omega (arith, z))))
signed_value v false n m e =
    ap v e
    ∙ sym (ap (λ k. if k == 0 then false else v k) e
    ∙ ap (λ b. if b then false else v (suc m)) (ne_eqb (suc m) 0 (λ z. omega (arith, z))))

literal_value : (v : ℕ → Bool) (lit : ℕ) → note_value v (literal_of lit) ≡ value_in v lit
literal_value v zero = refl
literal_value v (suc zero) = refl
literal_value v (suc (suc n)) =
    let lit : ℕ = suc (suc n) in
    let half : lit / 2 ≡ suc (n / 2) = omega arith in
    let clause : NoteLiteral = literal.Clause (if is_negated lit then neg_ℤ (pos (lit / 2)) else pos (lit / 2)) in
    ap (λ b. note_value v (if b then literal.Zero else if lit == 1 then literal.One else clause))
    (ne_eqb lit 0 (λ z. omega (arith, z)))
    ∙ ap (λ b. note_value v (if b then literal.One else clause)) (ne_eqb lit 1 (λ z. omega (arith, z)))
    ∙ signed_value v (is_negated lit) (lit / 2) (n / 2) half

-- past the literals there are zeros
value_or : (v : ℕ → Bool) (lits : List ℕ) (b : ℕ)
    → slice_index_or (map (value_in v) lits) b false ≡ value_in v (slice_index_or lits b 0)
value_or v [] zero = refl
value_or v [] (suc b) = refl
value_or v (l ∷ ls) zero = refl
value_or v (l ∷ ls) (suc b) = value_or v ls b

module _ (v : ℕ → Bool) (run : List Values) (channel cycle : ℕ) where
  bit_agrees : (field : Field) (lits : List ℕ) (b : ℕ) → b < field_width field
      → number_in v lits ≡ field_in (values_at run cycle) channel field
      → value_in v (slice_index_or lits b 0)
      ≡ (bit_at (values_at run cycle (field_name field)) (channel * field_width field + b) == 1)
  bit_agrees field lits b less e =
      let w = field_width field in
      bit_is (value_in v (slice_index_or lits b 0)) (slice_index_or (map (value_in v) lits) b false)
      (bit_at (values_at run cycle (field_name field)) (channel * w + b))
      (sym (bit_at_part (channel * w) w (values_at run cycle (field_name field)) b less)
      ∙ sym (ap (λ n. bit_at n b) e) ∙ number_bit (map (value_in v) lits) b)
      (sym (value_or v lits b))

  -- for so many bits from one on
  bits_agree : (field : Field) (lits : List ℕ) (from count : ℕ) → from + count ≤ field_width field
      → number_in v lits ≡ field_in (values_at run cycle) channel field
      → Agree v run (map (λ b. record {
        literal = literal_of (slice_index_or lits b 0);
        cycle = cycle;
        bit = channel * field_width field + b;
        name = field_name field;
      }) (range_with_len from count))
  bits_agree field lits from zero le e = tt
  bits_agree field lits from (suc count) le e = (
    literal_value v (slice_index_or lits from 0) ∙ bit_agrees field lits from (omega (arith, le)) e,
    bits_agree field lits (from + 1) count (omega (arith, le)) e,
  )

  pub fields_agree : (fields : List Field) (words : List (List ℕ))
      → map (number_in v) words ≡ map (field_in (values_at run cycle) channel) fields
      → Agree v run (field_notes channel cycle fields words)
  fields_agree [] words e = tt
  fields_agree (field ∷ fields) [] e = absurd (omega (arith, ap length e))
  fields_agree (field ∷ fields) (lits ∷ words) e =
      let first : number_in v lits ≡ field_in (values_at run cycle) channel field = cc in
      let rest : map (number_in v) words ≡ map (field_in (values_at run cycle) channel) fields = cc in
      append (AgreeAt v run) (bit_notes channel cycle field lits) (field_notes channel cycle fields words)
      (bits_agree field lits 0 (field_width field) (omega arith) first) (fields_agree fields words rest)

-- ---- each bit has a note

get_behind : {A : Type 0} (xs ys : List A) (i : ℕ) → slice_get (xs ++ ys) (length xs + i) ≡ slice_get ys i
get_behind [] ys i = let z : 0 + i ≡ i = omega arith in ap (slice_get ys) z
get_behind (x ∷ xs) ys i =
    let n : suc (length xs) + i ≡ suc (length xs + i) = omega arith in
    ap (slice_get (x ∷ (xs ++ ys))) n ∙ get_behind xs ys i

get_before : {A : Type 0} (xs ys : List A) (i : ℕ) (x : A) → slice_get xs i ≡ Some x → slice_get (xs ++ ys) i ≡ Some x
get_before [] ys i x e = absurd (true≢false (ap is_none e))
get_before (y ∷ xs) ys zero x e = e
get_before (y ∷ xs) ys (suc i) x e = get_before xs ys i x e

get_mapped : {A : Type 0} (f : ℕ → A) (from count i : ℕ) → i < count
    → slice_get (map f (range_with_len from count)) i ≡ Some (f (from + i))
get_mapped f from zero i less = absurd (omega (arith, less))
get_mapped f from (suc count) zero less =
    let z : from ≡ from + 0 = omega arith in ap (λ n. Some (f n)) z
get_mapped f from (suc count) (suc i) less =
    let n : from + 1 + i ≡ from + suc i = omega arith in
    get_mapped f (from + 1) count i (omega (arith, less)) ∙ ap (λ m. Some (f m)) n

module _ (channel cycle : ℕ) where
  abbrev EachNoted : List Note → Field → Type 0
  EachNoted notes field = (bit : ℕ) → bit < field_width field → IsNoted notes channel cycle field bit

  here : (front rest : List Note) (field : Field) (lits : List ℕ)
      → EachNoted (front ++ (bit_notes channel cycle field lits ++ rest)) field
  here front rest field lits bit less = record {
    place = length front + bit;
    note = record {
      literal = literal_of (slice_index_or lits (0 + bit) 0);
      cycle = cycle;
      bit = channel * field_width field + (0 + bit);
      name = field_name field;
    };
    there = get_behind front (bit_notes channel cycle field lits ++ rest) bit
        ∙ get_before (bit_notes channel cycle field lits) rest bit _
        (get_mapped (λ b. record {
          literal = literal_of (slice_index_or lits b 0);
          cycle = cycle;
          bit = channel * field_width field + b;
          name = field_name field;
        }) 0 (field_width field) bit less);
    name = refl;
    cycle_is = refl;
    bit_is = omega arith;
  }

  pub all_noted : (front : List Note) (fields : List Field) (words : List (List ℕ))
      → AllByRecursion (EachNoted (front ++ field_notes channel cycle fields words)) fields
  all_noted front [] words = tt
  all_noted front (field ∷ fields) [] =
      let own = bit_notes channel cycle field [] in
      let rest = field_notes channel cycle fields [] in
      let P : List Note → Type 0 = λ notes. AllByRecursion (EachNoted notes) fields in
      (here front rest field [], subst P (append_assoc front own rest) (all_noted (front ++ own) fields []))
  all_noted front (field ∷ fields) (lits ∷ words) =
      let own = bit_notes channel cycle field lits in
      let rest = field_notes channel cycle fields words in
      let P : List Note → Type 0 = λ notes. AllByRecursion (EachNoted notes) fields in
      (here front rest field lits, subst P (append_assoc front own rest) (all_noted (front ++ own) fields words))
