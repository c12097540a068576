-- Object files: 64-bit ELF, the lowest byte first (System V gABI, chapter 4). In brackets stand the manual's names.
use Rattle.std.specs.Prelude.{◌+◌, ◌*◌, ◌/◌, ◌%◌, ◌==◌, ◌&&◌, ℕ, Bool, cond, length, nat_le, nat_lt, zero, suc, List, [], ◌∷◌, ◌++◌, take}
use Rattle.std.specs.Prelude.{drop, slice_index}
use Rattle.byteorder.specs.Endian.{little_number}
use Rattle.elf.specs.declared.section.Section.{Section}
use Rattle.elf.specs.declared.symbol.Symbol.{Symbol}

-- the number in so many bytes from a place on
unfoldable pub number_at : ℕ → ℕ → List ℕ → ℕ
number_at count at bytes = little_number count (drop at bytes)

-- so many bytes from a place on
abbrev pub bytes_at : ℕ → ℕ → List ℕ → List ℕ
bytes_at at count bytes = take count (drop at bytes)

-- an ELF file, by its first bytes [EI_MAG0 to EI_MAG3]
abbrev pub is_elf : List ℕ → Bool
is_elf file =
    nat_le 4 (length file)
    && ((slice_index file 0 == 0x7f) && ((slice_index file 1 == 0x45) && ((slice_index file 2 == 0x4c) && (slice_index file 3 == 0x46))))

-- ---- sections

-- how many there are [e_shnum]
abbrev pub section_count : List ℕ → ℕ
section_count file = number_at 2 60 file

-- the section of a row [Elf64_Shdr]
abbrev pub section_in : List ℕ → Section
section_in row = record {
  name = number_at 4 0 row;
  kind = number_at 4 4 row;
  flags = number_at 8 8 row;
  offset = number_at 8 24 row;
  size = number_at 8 32 row;
  link = number_at 4 40 row;
  info = number_at 4 44 row;
}

-- where the row of this number begins: the table begins at e_shoff, and a row is e_shentsize after the one before
abbrev pub row_place : List ℕ → ℕ → ℕ
row_place file index = number_at 8 40 file + index * number_at 2 58 file

-- the section of this number
unfoldable pub section_at : List ℕ → ℕ → Section
section_at file index = section_in (bytes_at (row_place file index) 64 file)

-- it has code: the program's [SHT_PROGBITS], that is run [SHF_EXECINSTR]
abbrev pub is_code : Section → Bool
is_code section = (section.kind == 1) && (section.flags / 4 % 2 == 1)

-- its bytes
abbrev pub contents_of : Section → List ℕ → List ℕ
contents_of section file = bytes_at section.offset section.size file

-- how many bytes it has in the file: one of a kind has none [SHT_NOBITS]
abbrev pub stored_size : Section → ℕ
stored_size section = cond (section.kind == 8) 0 section.size

-- how many bytes the first sections have in the file, one after the other
unfoldable pub sizes_below : List ℕ → ℕ → ℕ
sizes_below file zero = 0
sizes_below file (suc index) = sizes_below file index + stored_size (section_at file index)

-- ---- symbols

-- the symbol of a row of a table, whose names lie from this place on [Elf64_Sym]
unfoldable pub symbol_in : ℕ → List ℕ → Symbol
symbol_in names row = record {
  name = names + number_at 4 0 row;
  kind = slice_index row 4 % 16;
  is_local = nat_lt (slice_index row 4) 16;
  section = number_at 2 6 row;
  value = number_at 8 8 row;
  size = number_at 8 16 row;
}

-- the symbol in this row of a table
abbrev pub symbol_at : List ℕ → Section → ℕ → Symbol
symbol_at file table row = symbol_in (section_at file table.link).offset (bytes_at (row * 24) 24 (contents_of table file))

-- it is a function [STT_FUNC] in a section of code; section 0 and those that the file doesn't have stand for something else
unfoldable pub is_function : List ℕ → Symbol → Bool
is_function file symbol =
    (symbol.kind == 2)
    && ((nat_lt 0 symbol.section && nat_lt symbol.section (section_count file)) && is_code (section_at file symbol.section))

-- a symbol alone, if it is a function
abbrev pub if_function : List ℕ → Symbol → List Symbol
if_function file symbol = cond (is_function file symbol) (symbol ∷ []) []

-- the functions in the first rows of a table, in their order
unfoldable pub functions_in : List ℕ → Section → ℕ → List Symbol
functions_in file table zero = []
functions_in file table (suc row) = functions_in file table row ++ if_function file (symbol_at file table row)

-- the functions of a section, if it is a table of symbols [SHT_SYMTAB]
abbrev pub functions_of_table : List ℕ → Section → List Symbol
functions_of_table file table = cond (table.kind == 2) (functions_in file table (table.size / 24)) []

-- those of the first sections
unfoldable pub functions_below : List ℕ → ℕ → List Symbol
functions_below file zero = []
functions_below file (suc index) = functions_below file index ++ functions_of_table file (section_at file index)

-- the functions of a file
abbrev pub functions_of : List ℕ → List Symbol
functions_of file = functions_below file (section_count file)

-- ---- relocations

-- how many bytes a row has: with an addend 24 [SHT_RELA], without 16 [SHT_REL]
abbrev pub relocation_size : Section → ℕ
relocation_size section = cond (section.kind == 4) 24 16

-- where a row has a symbol's value put in, as a place in its section [r_offset]
abbrev pub relocation_at : List ℕ → Section → ℕ → ℕ
relocation_at file section row =
    number_at 8 0 (bytes_at (row * relocation_size section) (relocation_size section) (contents_of section file))
