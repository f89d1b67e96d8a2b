-- What a lawful pattern keeps.
use Rattle.std.proofs.Common.{◌≡◌, ◌^◌, ◌<◌, Bool, true, false, ◌&&◌, nat_lt, arith, refl}
use Rattle.std.proofs.lemmas.Grind.{common_steps}
use Rattle.rv_table.specs.declared.pattern.Pattern.{Pattern}
use Rattle.rv_table.specs.Assembled.{is_lawful, is_part_below}

pub first_true : (a b : Bool) → (a && b) ≡ true → a ≡ true
first_true true b e = refl
first_true false b e = e

pub second_true : (a b : Bool) → (a && b) ≡ true → b ≡ true
second_true true b e = e
second_true false b e = cc

pub lawful_opcode : (p : Pattern) → is_lawful p ≡ true → p.opcode < 2 ^ 7
lawful_opcode p e =
    let t : nat_lt p.opcode (2 ^ 7) ≡ true = first_true _ _ e in grind (arith, common_steps)

pub lawful_funct3 : (p : Pattern) → is_lawful p ≡ true → is_part_below (2 ^ 3) p.funct3 ≡ true
lawful_funct3 p e = first_true _ _ (second_true (nat_lt p.opcode (2 ^ 7)) _ e)

pub lawful_funct7 : (p : Pattern) → is_lawful p ≡ true → is_part_below (2 ^ 7) p.funct7 ≡ true
lawful_funct7 p e = second_true (is_part_below (2 ^ 3) p.funct3) _ (second_true (nat_lt p.opcode (2 ^ 7)) _ e)

pub ruleset parts = (lawful_opcode, lawful_funct3, lawful_funct7)
