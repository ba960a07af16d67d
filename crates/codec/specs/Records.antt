-- An image's records.
use Rattle.std.specs.Prelude.{ℕ, zero, suc, ◌*◌, List, [], ◌∷◌, ◌++◌, get_or, drop}
use Rattle.codec.specs.Layouts.{pack, unpack, Fit}
use Rattle.codec.specs.declared.Record.{Record}

-- the bytes of a record, and of the header
abbrev pub record_bytes : ℕ
record_bytes = 24

-- kind, node, account, day, next index, serial, amount, named serial, a, b, named node
abbrev pub layout : List ℕ
layout = 1 ∷ 1 ∷ 2 ∷ 2 ∷ 2 ∷ 4 ∷ 4 ∷ 4 ∷ 2 ∷ 1 ∷ 1 ∷ []

abbrev pub fields_of : Record → List ℕ
fields_of r =
    r.raw.kind ∷
    r.raw.node ∷
    r.raw.account ∷
    r.raw.day ∷
    r.next ∷
    r.raw.serial ∷
    r.raw.amount ∷
    r.raw.named_serial ∷
    r.raw.a ∷
    r.raw.b ∷
    r.raw.named_node ∷
    []

abbrev pub fields_record : List ℕ → Record
fields_record v =
    record {
      raw =
          record {
            kind = get_or v 0 0;
            node = get_or v 1 0;
            account = get_or v 2 0;
            day = get_or v 3 0;
            serial = get_or v 5 0;
            amount = get_or v 6 0;
            named_serial = get_or v 7 0;
            a = get_or v 8 0;
            b = get_or v 9 0;
            named_node = get_or v 10 0;
          };
      next = get_or v 4 0;
    }

-- every field fits its bytes
abbrev pub FieldsFit : Record → Type 0
FieldsFit r = Fit layout (fields_of r)

unfoldable pub encode_record : Record → List ℕ
encode_record r = pack layout (fields_of r)

-- the record that stands at the start of bytes
unfoldable pub decode_record : List ℕ → Record
decode_record l = fields_record (unpack layout l)

-- record i stands at byte 24 × i; record 0 is the header
abbrev pub record_in : List ℕ → ℕ → Record
record_in l i = decode_record (drop (record_bytes * i) l)

abbrev pub encode_all : List Record → List ℕ
encode_all [] = []
encode_all (r ∷ rs) = encode_record r ++ encode_all rs

-- so many records, one after another
abbrev pub decode_all : ℕ → List ℕ → List Record
decode_all zero l = []
decode_all (suc n) l = decode_record l ∷ decode_all n (drop record_bytes l)

abbrev pub AllFieldsFit : List Record → Type 0
AllFieldsFit [] = Unit {0}
AllFieldsFit (r ∷ rs) = FieldsFit r × AllFieldsFit rs
