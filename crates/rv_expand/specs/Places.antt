-- Between functions: Where a half word has its registers and its immediate (manual, sections 16.3 to 16.5).
use Rattle.std.specs.Prelude.{ℕ, Bool, true, ◌&&◌, nat_lt}
use Rattle.rv_table.specs.declared.assemble.Operands.{Operands}
use Rattle.rv_table.specs.Compressed as c
use Rattle.rv_expand.specs.declared.place.RegisterPlace.{RegisterPlace}
use Rattle.rv_expand.specs.declared.place.RegisterPlace.TheVariants.{Always, Far, Second, NearHigh, NearLow}
use Rattle.rv_expand.specs.declared.place.ImmediatePlace.{ImmediatePlace}
use Rattle.rv_expand.specs.declared.place.ImmediatePlace.TheVariants.{
  Zero,
  Six,
  Amount,
  Addi4spn,
  Addi16sp,
  Lui,
  Word,
  Lwsp,
  Swsp,
  Jump,
  Branch,
}
use Rattle.rv_expand.specs.declared.place.Places.{Places}

-- the register that a half word has there
abbrev pub register_at : RegisterPlace → ℕ → ℕ
register_at (Always n) h = n
register_at Far h = c.far h
register_at Second h = c.second h
register_at NearHigh h = c.near_high h
register_at NearLow h = c.near_low h

abbrev pub immediate_at : ImmediatePlace → ℕ → ℕ
immediate_at Zero h = 0
immediate_at Six h = c.six h
immediate_at Amount h = c.second h
immediate_at Addi4spn h = c.addi4spn_immediate h
immediate_at Addi16sp h = c.addi16sp_immediate h
immediate_at Lui h = c.lui_immediate h
immediate_at Word h = c.word_offset h
immediate_at Lwsp h = c.lwsp_offset h
immediate_at Swsp h = c.swsp_offset h
immediate_at Jump h = c.jump_offset h
immediate_at Branch h = c.branch_offset h

abbrev pub operands_at : Places → ℕ → Operands
operands_at p h = record {
  rd = register_at p.rd h;
  rs1 = register_at p.rs1 h;
  rs2 = register_at p.rs2 h;
  immediate = immediate_at p.immediate h;
}

-- a register that is always the same is one of x0 to x31
abbrev pub is_register : RegisterPlace → Bool
is_register (Always n) = nat_lt n 32
is_register Far = true
is_register Second = true
is_register NearHigh = true
is_register NearLow = true

abbrev pub are_registers : Places → Bool
are_registers p = is_register p.rd && (is_register p.rs1 && is_register p.rs2)
