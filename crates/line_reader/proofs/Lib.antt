pub mod CutLaws
mod KeepLaws
mod ReturnLaws
mod HoldLaws
