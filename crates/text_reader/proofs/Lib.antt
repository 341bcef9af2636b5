pub mod FormCases
