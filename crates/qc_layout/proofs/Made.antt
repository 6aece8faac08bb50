-- The header that was made is the one that the bytes spell.
use Rattle.std.proofs.Common.{rules}
use Rattle.std.proofs.Common.{◌≡◌, ℕ, List, length, None, arith}
use Rattle.std.specs.List.{All}
use Rattle.std.proofs.lemmas.List.Elements.{All-same}
use Rattle.qc_layout.specs.declared.extension.Extension.{Extension}
use Rattle.qc_layout.specs.declared.header.Fields.{Fields}
use Rattle.qc_layout.specs.declared.header.Header.{Header}
use Rattle.qc_layout.specs.declared.header.Part.{Part}
use Rattle.qc_layout.specs.Header.{fields_of, first_of, number_fault}
use Rattle.qc_layout.specs.Extensions.{AreExtensions, list_end, extension_rules}
use Rattle.qc_layout.specs.Reading.{IsNear, IsMade}
use Rattle.qc_layout.specs.Spelling.{AreIn, IsHeaderOf}
use Rattle.qc_layout.proofs.Passing.{listing_near}

-- extensions that were listed are near, under another name too
pub listed_near : (file : List ℕ) (end from bits : ℕ) (es passed : List Extension) → end ≡ list_end bits → AreExtensions file end from es → passed ≡ es → All IsNear passed
listed_near file end from bits es passed is are same = All-same IsNear passed es same (listing_near file end from es (omega (arith, is)) are)

-- what a run read and found
pub record HasRead (part : Part) (file : List ℕ) (f : Fields) (end from : ℕ) (es passed : List Extension) : Type 0 where
  pub read : f ≡ fields_of file
  pub ends : end ≡ list_end f.cluster_bits
  pub starts : from ≡ f.header_length
  pub numbers : number_fault part (length file) f ≡ None
  pub listed : AreExtensions file end from es
  pub same : passed ≡ es

-- the extensions are those of the file
pub read_listed : (part : Part) (file : List ℕ) (f : Fields) (end from : ℕ) (es passed : List Extension) → HasRead part file f end from es passed → AreIn file passed
read_listed part file f end from es passed has = search rules

pub read_made : (part : Part) (file : List ℕ) (f : Fields) (end from : ℕ) (es passed : List Extension) (h : Header) → HasRead part file f end from es passed
    → first_of (extension_rules part file f passed) ≡ None → IsMade file f passed h → IsHeaderOf part file h
read_made part file f end from es passed h has rules made =
    let read = has.read in
    let fields = made.fields in
    let kept = made.kept in
    let numbers = has.numbers in
    record {
      spells = record {
        numbers = cc;
        fields = cc;
        extensions = passed;
        listed = read_listed part file f end from es passed has;
        rules = cc;
        kept = cc;
        bitmaps = made.bitmaps;
        own = made.own;
      };
      own_at = made.own_at;
    }
