pub mod PutOffLaws
